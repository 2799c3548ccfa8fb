-- What the call answers and leaves, by the room that it is lent; and that its contract determines both. Assumes nothing.
use mathlib.Core.Path.{◌≡◌, sym, ap, ◌∙◌}
use mathlib.Core.Bool.{true, false, ◌&&◌}
use mathlib.Core.List.{List, ◌++◌, append-nil}
use mathlib.Core.Option.{Option, none, some}
use Prim.Native.Nat.{ℕ, ◌*◌}
use native.Mathlib.Omega.{arith}
use lib.Dec.{eqb, leb}
use lib.ListN.{length, drop, length-append}
use lib.Seq.{drop-length}
use borrow.Author.Tests.{eq-eqb, ne_eqb, leb-true}
use Rattle.std.specs.Prelude.{Result, Ok}
use Rattle.common.specs.Numbers.{told}
use Rattle.common.specs.Refusals.{left}
use Rattle.common.specs.declared.refusals.Refusal.{Refusal}
use Rattle.common.proofs.Numbers.{told_same}
use Rattle.common.proofs.Answers.{done_by}
use Rattle.common.proofs.Limits.{passed}
use Rattle.io.specs.Counts.{IsPrefixLen}
use Rattle.io.proofs.Counting.{prefix_len_of_le}
use Rattle.text.specs.Text.{put}
use Rattle.text.proofs.Putting.{put_front}
use Rattle.mending.specs.Mending.{whole, mended_file, text, mend_number, mend_call}
use Rattle.mending.proofs.Files.{file_size}

-- an output of exactly the file's size is the file
pub file_done : {at : ℕ} {after : List ℕ} (l o : List ℕ) → length o ≡ 8 * whole l → (at, after) ≡ put 0 (mended_file l) o →
    after ≡ mended_file l
file_done {at} {after} l o h e =
    let size = file_size l in
    let full : length (mended_file l) ≡ length o = omega arith in
    ap (λ (t : ℕ × List ℕ). t.1) (e ∙ put_front (mended_file l) o (omega arith)) ∙ rw (full, drop-length, append-nil)

module _ (l o t : List ℕ) where
  -- an output of another size
  pub output_refused : (length o ≡ 8 * whole l → ⊥) →
      ◌≡◌ {A = (ℕ × Option ℕ) × List ℕ × List ℕ} ((7, none), o, t) (mend_call l o t)
  unfolding mend_call mend_number left
  output_refused d = rw (ne_eqb (length o) (8 * whole l) d)

  -- a text that does not fit
  pub text_refused : length o ≡ 8 * whole l → false ≡ leb (length (text l)) (length t) →
      ◌≡◌ {A = (ℕ × Option ℕ) × List ℕ × List ℕ} ((7, none), o, t) (mend_call l o t)
  unfolding mend_call mend_number left
  text_refused h e = rw (eq-eqb (length o) (8 * whole l) h, ← e)

  pub call_written : (r : ℕ) (o' t' : List ℕ) → length o ≡ 8 * whole l → true ≡ leb (length (text l)) (length t) → o' ≡ mended_file l →
      (r, t') ≡ put 0 (text l) t → ◌≡◌ {A = (ℕ × Option ℕ) × List ℕ × List ℕ} ((0, some r), o', t') (mend_call l o t)
  unfolding mend_call mend_number left
  call_written r o' t' h e file put_all_lem =
      let fits = put_all_lem ∙ put_front (text l) t (leb-true _ _ (sym e)) in
      let place : r ≡ length (text l) = ap (λ (t : ℕ × List ℕ). t.0) fits in
      let line : t' ≡ text l ++ drop (length (text l)) t = ap (λ (t : ℕ × List ℕ). t.1) fits in
      rw (eq-eqb (length o) (8 * whole l) h, ← e, place, line, file)

-- what is said lies within the text's memory, so that a caller can lend it on
pub said_counts : (l o t o' t' : List ℕ) (r : Result ℕ Refusal) (n : ℕ) → r ≡ Ok n → (told r, o', t') ≡ mend_call l o t →
    IsPrefixLen n t'
unfolding mend_call mend_number left
said_counts l o t o' t' r n e by =
    let number = ap (λ (t : (ℕ × Option ℕ) × List ℕ × List ℕ). t.0) by in
    let room = ap (λ (t : (ℕ × Option ℕ) × List ℕ × List ℕ). t.2) by in
    let fits = eqb (length o) (8 * whole l) && leb (length (text l)) (length t) in
    let done = done_by (mend_number l (length o) (length t)) (length (text l)) n (sym (ap told e) ∙ number) in
    let good : fits ≡ true = (passed fits 6 0 done.0).0 in
    let said : t' ≡ text l ++ drop (length (text l)) t = rw good at room in
    let long = ap length said ∙ length-append (text l) (drop (length (text l)) t) in
    prefix_len_of_le n t' (omega (arith, done.1))

mend_determined : (input output room exit exit' said said' : List ℕ) (r r' : Result ℕ Refusal) →
    (told r, exit, said) ≡ mend_call input output room → (told r', exit', said') ≡ mend_call input output room →
    (r ≡ r') × (exit ≡ exit') × (said ≡ said')
mend_determined input output room exit exit' said said' r r' e e' =
    let same = e ∙ sym e' in (
      told_same r r' (ap (λ (t : (ℕ × Option ℕ) × List ℕ × List ℕ). t.0) same),
      ap (λ (t : (ℕ × Option ℕ) × List ℕ × List ℕ). t.1) same,
      ap (λ (t : (ℕ × Option ℕ) × List ℕ × List ℕ). t.2) same,
    )
