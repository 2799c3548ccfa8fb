-- What the call of cross approximation answers: a refusal, or the run that the lengths allow. Assumes nothing.
use mathlib.Core.Path.{◌≡◌, refl, sym, ap}
use mathlib.Core.Option.{Option, none}
use mathlib.Core.Bool.{Bool, true, false, ◌&&◌, and-eq-true_iff}
use mathlib.Core.List.{List}
use Prim.Native.Nat.{ℕ, zero, suc, ◌*◌, ◌<◌, ◌≤◌, min}
use native.Mathlib.Nat.{min-le_left}
use native.Mathlib.Omega.{arith}
use lib.Dec.{leb}
use lib.Ieee.{Float}
use lib.ListN.{length}
use borrow.Author.Tests.{eqb-true, leb-true}
use Rattle.common.specs.Floats.{times}
use Rattle.common.specs.Refusals.{most_entries, answer}
use Rattle.common.proofs.Cases.{equal_and}
use Rattle.common.proofs.Limits.{left_done, left_refused, passed}
use Rattle.aca_pivots.specs.Flags.{all_on}
use Rattle.aca_steps.specs.Memories.{Memory, laid, block_of}
use Rattle.aca.specs.Runs.{run, listed, steps_of, begin, report, lengths, fits, aca_number, start, approximation, call, aca_call}
use Rattle.aca.specs.Reports.{told_report, told}
use Rattle.aca_steps.proofs.Marked.{marks_none}
use Rattle.aca.specs.Working.{Begun, ran, Ran}
use Rattle.aca.specs.Reports.{Report}
use Rattle.aca.specs.declared.Report.{Report as Made}
use Rattle.common.specs.declared.refusals.Refusal.{Refusal}
use Rattle.common.specs.Numbers.{number}
use Rattle.common.proofs.Numbers.{number_above}
use Rattle.std.specs.Prelude.{Result, Ok, Err}
use Rattle.std.specs.Result.{IsErrAnd}

-- what the number 0 says of the lengths
record Fitting (restart : Bool) (m n : ℕ) (a : List Float) (t : Memory) : Type 0 where
  tall : m ≤ most_entries
  wide : n ≤ most_entries
  samples_long : length a ≡ n * m
  us_long : length t.us ≡ min m n * m
  vs_long : length t.vs ≡ min m n * n
  rows_long : length t.row_list ≡ listed restart m n
  columns_long : length t.column_list ≡ min m n
  row_long : length t.row ≡ n
  column_long : length t.column ≡ m

fitting : (restart : Bool) (m n : ℕ) (a : List Float) (t : Memory) → aca_number restart m n (lengths a t) ≡ 0 → Fitting restart m n a t
unfolding aca_number fits
fitting restart m n a t z =
    let few = passed (leb m most_entries && leb n most_entries) 2 _ z in
    let c = (and-eq-true_iff (leb m most_entries) (leb n most_entries)).0 few.0 in
    let f1 = equal_and (length a) (n * m) _ (passed _ 6 0 few.1).0 in
    let f2 = equal_and (length t.us) (min m n * m) _ f1.1 in
    let f3 = equal_and (length t.vs) (min m n * n) _ f2.1 in
    let f4 = equal_and (length t.row_list) (listed restart m n) _ f3.1 in
    let f5 = equal_and (length t.column_list) (min m n) _ f4.1 in
    let f6 = equal_and (length t.row) n _ f5.1 in
    record {
      tall = leb-true m most_entries c.0;
      wide = leb-true n most_entries c.1;
      samples_long = f1.0;
      us_long = f2.0;
      vs_long = f3.0;
      rows_long = f4.0;
      columns_long = f5.0;
      row_long = f6.0;
      column_long = eqb-true _ _ f6.1;
    }

-- no more rows are listed than there are
few_listed : (restart : Bool) (m n : ℕ) → listed restart m n ≤ m
few_listed false m n = min-le_left m n
few_listed true m n = omega arith

refused_told : (n : ℕ) (r : Report) → 0 < n → answer n r ≡ (n, none)
refused_told zero r h = absurd (omega (arith, h))
refused_told (suc n) r h = refl

-- what a `?` hands on
handed : (r : Result Made Refusal) (e : Refusal) → IsErrAnd r (λ y. y ≡ e) → told r ≡ (number e, none)
handed (Ok a) e h = absurd h
handed (Err y) e h = ap (λ (n : ℕ). (n, none)) (ap number h)

module _ (m n : ℕ) (a : List Float) (epsilon : Float) (restart : Bool) (t : Memory) where
  pub refused : (r : Result Made Refusal) (e : Refusal) → IsErrAnd r (λ y. y ≡ e) → number e ≡ aca_number restart m n (lengths a t) →
      call (told r) t ≡ aca_call m n a epsilon restart t
  unfolding aca_call
  refused r e h q =
      let made = approximation m n a epsilon restart t in
      let above = number_above e in
      rw (handed r e h, ← q, left_refused (number e) (laid made.found t) t (λ z. omega (arith, above, z)))
      (ap (λ (x : ℕ × Option Report). call x t) (sym (refused_told (number e) (report made) above)))

  module _ (z : aca_number restart m n (lengths a t) ≡ 0) where
    f : Fitting restart m n a t
    f = fitting restart m n a t z

    pub begun : (rows columns : List ℕ) → rows ≡ all_on → columns ≡ all_on → Begun (length a) t rows columns
    begun rows columns on on' =
        record {
          sizes =
              record {
                tall = rw f.column_long f.tall;
                wide = rw f.row_long f.wide;
                block = rw (f.row_long, f.column_long, f.samples_long) (omega arith);
                terms = rw (f.columns_long, f.column_long, f.row_long);
                u_room = rw (f.columns_long, f.column_long, f.us_long) (omega arith);
                v_room = rw (f.columns_long, f.row_long, f.vs_long) (omega arith);
              };
          short = rw (f.rows_long, f.column_long) (few_listed restart m n);
          rows_marked = rw on marks_none;
          columns_marked = rw on' marks_none;
        }

    pub finished : (r : Made) (t' : Memory) → Ran (ran a (times epsilon epsilon) restart t) t (told_report r) t' →
        call (told (Ok r)) t' ≡ aca_call m n a epsilon restart t
    unfolding aca_call approximation
    finished r t' h =
        let e' = run (steps_of (listed restart m n) (min m n)) restart (block_of m n a) (times epsilon epsilon) begin (start t) in
        let same : ran a (times epsilon epsilon) restart t ≡ e' = rw (f.rows_long, f.columns_long, f.column_long, f.row_long) in
        let whole : Ran e' t (told_report r) t' = rw same at h in
        rw (z, left_done 0 (laid e'.found t) t refl, whole.report_is, whole.memory_is)
