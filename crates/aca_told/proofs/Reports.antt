-- What the call of cross approximation answers in numbers: by slices that do not fit, or by the run's own answer. Assumes nothing.
use mathlib.Core.Path.{◌≡◌, refl, ap, ◌∙◌}
use mathlib.Core.Bool.{Bool, true, false, ◌&&◌}
use mathlib.Core.List.{List}
use mathlib.Core.Option.{Option}
use Prim.Native.Nat.{ℕ, zero, suc}
use native.Mathlib.Omega.{arith}
use lib.Dec.{leb}
use lib.Ieee.{Float}
use lib.ListN.{length}
use borrow.Author.Tests.{eq-eqb, ne_eqb}
use Rattle.common.specs.Refusals.{left, lower, most_entries, answer}
use Rattle.common.proofs.Cases.{by_bool}
use Rattle.common.proofs.Limits.{left_done, left_refused}
use Rattle.aca_steps.specs.Memories.{Memory, laid}
use Rattle.aca.specs.Runs.{fits, report, lengths, aca_number, approximation, Call, call, aca_call}
use Rattle.aca.specs.Reports.{told}
use Rattle.aca.specs.Reports.{Report}
use Rattle.std.specs.Prelude.{Result}
use Rattle.common.specs.declared.refusals.Refusal.{Refusal}
use Rattle.aca.specs.declared.Report.{Report as Made}
use Rattle.answers.specs.Answers.{with_length}
use Rattle.aca_told.specs.Told.{counts_of, numbers_of, report_fits, cross_number, crossed, cross_told}
use Rattle.aca_told.specs.Working.{report_told, unfit_number}
use Rattle.answers.proofs.Lengths.{with_fit}

-- what is told of a report, or of a refusal, is told of the number and the report
report_told_lem : (n : ℕ) (r : Report) (c : List ℕ) (e : List Float) →
    report_told (answer n r) c e ≡ (n, left n (counts_of r) c, left n (numbers_of r) e)
unfolding report_told
report_told_lem zero r c e = rw (left_done 0 (counts_of r) c refl, left_done 0 (numbers_of r) e refl)
report_told_lem (suc n) r c e =
    let no : suc n ≡ 0 → ⊥ = λ z. omega arith in
    rw (left_refused (suc n) (counts_of r) c no, left_refused (suc n) (numbers_of r) e no)

-- slices fit, or one of them does not
module _ (c : List ℕ) (e : List Float) where
  pub fit_both : length c ≡ 3 → length e ≡ 2 → report_fits c e ≡ true
  fit_both h h' = rw (eq-eqb (length c) 3 h, eq-eqb (length e) 2 h')

  pub unfit_counts : (length c ≡ 3 → ⊥) → report_fits c e ≡ false
  unfit_counts h = rw (ne_eqb (length c) 3 h)

  pub unfit_numbers : length c ≡ 3 → (length e ≡ 2 → ⊥) → report_fits c e ≡ false
  unfit_numbers h h' = rw (eq-eqb (length c) 3 h, ne_eqb (length e) 2 h')

module _ (m n : ℕ) (a : List Float) (epsilon : Float) (restart : Bool) (t : Memory) (c : List ℕ) (e : List Float) where
  -- slices that do not fit: too many rows or columns are refused first, and nothing is written
  unfit_is : report_fits c e ≡ false → unfit_number m n ≡ cross_number restart m n a t c e
  unfolding unfit_number cross_number with_length lower aca_number
  unfit_is h =
      rw h
      (by_bool (leb m most_entries && leb n most_entries)
      (λ l. rw l (by_bool (fits restart m n (lengths a t)) (λ f. rw f) (λ f. rw f)))
      (λ l. rw l))

  unfit_refuses : unfit_number m n ≡ 0 → ⊥
  unfolding unfit_number
  unfit_refuses = by_bool (leb m most_entries && leb n most_entries) (λ l. rw l (λ z. omega arith)) (λ l. rw l (λ z. omega arith))

  pub cross_unfit : (r : ℕ) → r ≡ unfit_number m n → report_fits c e ≡ false → crossed r t c e ≡ cross_told m n a epsilon restart t c e
  unfolding cross_told
  cross_unfit r h f =
      let number = cross_number restart m n a t c e in
      let end = approximation m n a epsilon restart t in
      let no : number ≡ 0 → ⊥ = rw (unfit_is f) at unfit_refuses in
      rw (
        left_refused number (laid end.found t) t no,
        left_refused number (counts_of (report end)) c no,
        left_refused number (numbers_of (report end)) e no,
        h,
        unfit_is f,
      )

  -- slices that fit: the answer of the run, in numbers
  pub cross_fit : (r : Result Made Refusal) (t' : Memory) (number : ℕ) (c' : List ℕ) (e' : List Float) → report_fits c e ≡ true →
      call (told r) t' ≡ aca_call m n a epsilon restart t → (number, c', e') ≡ report_told (told r) c e →
      crossed number t' c' e' ≡ cross_told m n a epsilon restart t c e
  unfolding aca_call cross_told cross_number
  cross_fit r t' number c' e' f h g =
      let own = aca_number restart m n (lengths a t) in
      let end = approximation m n a epsilon restart t in
      let same : cross_number restart m n a t c e ≡ own = rw f (with_fit own) in
      let tells : told r ≡ answer own (report end) = ap (λ (x : Call). x.tells) h in
      let leaves : t' ≡ left own (laid end.found t) t = ap (λ (x : Call). x.leaves) h in
      let whole : ◌≡◌ {A = ℕ × List ℕ × List Float} (number, c', e')
      (own, left own (counts_of (report end)) c, left own (numbers_of (report end)) e) =
      g ∙ ap (λ (x : ℕ × Option Report). report_told x c e) tells ∙ report_told_lem own (report end) c e in
      rw (same, leaves) (ap (λ (x : ℕ × List ℕ × List Float). crossed x.0 (left own (laid end.found t) t) x.1 x.2) whole)
