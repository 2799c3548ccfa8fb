-- Demand 3 of the calls: for a far vector all four succeed, and what they answer and leave is right. Assumes nothing.
use mathlib.Core.Path.{◌≡◌, refl, sym}
use mathlib.Core.List.{List}
use Prim.Native.Nat.{ℕ, ◌+◌, ◌-◌, ◌^◌, ◌<◌, ◌≤◌}
use native.Mathlib.Omega.{arith}
use lib.IntN.{nat_abs}
use lib.ListN.{length}
use borrow.Author.Tests.{lt-ltb, eq-eqb, le-leb}
use Rattle.common.specs.Lists.{tabulate}
use Rattle.common.specs.Refusals.{Shape}
use Rattle.common.proofs.Answers.{answer_done}
use Rattle.common.proofs.Cases.{inside}
use Rattle.common.proofs.Fill.{get_d_tabulate}
use Rattle.common.proofs.Limits.{call_done}
use Rattle.common.proofs.Tests.{each_of}
use Rattle.vectors.specs.declared.Vector.{Vector}
use Rattle.vectors.specs.Vectors.{sizes, at_most, case, references, reference}
use Rattle.turn_tables.specs.Turned.{turned, returned}
use Rattle.turn.specs.Tables.{cases, table_number, table_call}
use Rattle.vectors.specs.LookUps.{entries, look_up, look_up_number, known_of, reference_call, reference_number, reference_at}
use Rattle.turn.specs.TurnCalls.{FarVector, CallsAreRight}
use Rattle.vectors.proofs.Listed.{reference_there}
use Rattle.turn.proofs.References.{reference_below}
use Rattle.turn.proofs.Right.{case_below, right_alike}

-- THE NUMBERS: each call gives 0

module _ (D p : ℕ) (ok : Shape D p) where
  pub look_up_taken : (v : Vector) → FarVector D v → look_up_number D (sizes (entries v)) ≡ 0
  unfolding look_up_number at_most
  look_up_taken v w =
      let none : (a : ℕ) → nat_abs (entries v (D + a)) ≤ 0 = λ a. rw (w.past (D + a) (omega arith)) (omega arith) in
      rw (
        inside 1 3 D ok.dimension_least ok.dimension_most,
        each_of D _ (λ a l. le-leb _ 3 (w.far.within a l)),
        each_of (3 - D) _ (λ a _. le-leb _ 0 (none a)),
      )

  reference_taken : (i : ℕ) → i < length (references D) → reference_number D i ≡ 0
  unfolding reference_number
  reference_taken i b = rw (inside 1 3 D ok.dimension_least ok.dimension_most, lt-ltb i (length (references D)) b)

  table_taken : (k : ℕ) (l : List ℕ) → k < cases D → length l ≡ p ^ D → table_number D p k (length l) ≡ 0
  unfolding table_number
  table_taken k l b e =
      rw (
        inside 1 3 D ok.dimension_least ok.dimension_most,
        inside 1 16 p ok.order_least ok.order_most,
        lt-ltb k (cases D) b,
        eq-eqb (length l) (p ^ D) e,
      )

  -- a table of the right length is filled
  pub filled : (k : ℕ) (f : ℕ → ℕ) (l : List ℕ) → k < cases D → length l ≡ p ^ D → table_call D p k f l ≡ (0, tabulate (p ^ D) f)
  unfolding table_call
  filled k f l b e = sym (call_done 0 _ (tabulate (p ^ D) f) l (sym (table_taken k l b e)) (tabulate (p ^ D) f) refl refl)

-- THE THEOREM: D from 1 to 3, p from 1 to 16, a far vector with zeros past D, tables of N entries
module _ (D p : ℕ) (v : Vector) (table inverse : List ℕ) (ok : Shape D p) (w : FarVector D v)
    (lt : length table ≡ p ^ D) (lu : length inverse ≡ p ^ D) where
  pub calls_are_right : CallsAreRight D p v table inverse
  unfolding look_up known_of reference_call
  calls_are_right =
      let e = entries v in
      let k = case D e in
      let i = reference D e in
      record {
        known = known_of D e;
        looked_up = sym (answer_done (look_up_number D (sizes e)) (known_of D e) _ (look_up_taken D p ok v w) refl);
        onto = reference_at D i;
        referred = sym (answer_done (reference_number D i) (reference_at D i) _
            (reference_taken D p ok i (reference_below D e w.far)) refl);
        filled = tabulate (p ^ D) (turned D p k);
        combined = filled D p ok k _ table (case_below D e) lt;
        undoing = tabulate (p ^ D) (returned D p k);
        inverted = filled D p ok k _ inverse (case_below D e) lu;
        right = right_alike D p e (entries (reference_at D i)) ok.order_least w.far
            (λ m l. reference_there D i m ok.dimension_most l) _ _
            (λ n b. get_d_tabulate (p ^ D) (turned D p k) n 0 b) (λ n b. get_d_tabulate (p ^ D) (returned D p k) n 0 b);
      }
