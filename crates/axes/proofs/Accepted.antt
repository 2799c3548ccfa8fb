-- A call whose number is 0 answers Ok; and so does the call for polynomials, with the lengths that it states. Assumes nothing.
use mathlib.Core.Path.{◌≡◌, refl, ap, ◌∙◌}
use mathlib.Core.Bool.{Bool}
use mathlib.Core.List.{List}
use Prim.Native.Nat.{ℕ, ◌*◌, ◌≤◌}
use native.Mathlib.Omega.{arith}
use lib.Ieee.{Float}
use lib.ListN.{length}
use borrow.Author.Tests.{eq-eqb, le-leb}
use Rattle.std.specs.Prelude.{Result, Ok, Err, IsOk}
use Rattle.common.specs.Numbers.{told_number}
use Rattle.common.specs.Refusals.{size_if}
use Rattle.common.specs.declared.refusals.Refusal.{Refusal}
use Rattle.common.proofs.Cases.{inside}
use Rattle.common.proofs.Numbers.{number_above}
use Rattle.chebyshev.specs.Polynomials.{polynomials_number, polynomials_call}

pub taken : {A : Type 0} (r : Result A Refusal) → told_number r ≡ 0 → IsOk r
taken (Ok a) h = refl
taken (Err e) h = absurd (omega (arith, number_above e, h))

pub polynomials_taken : {A : Type 0} (p P : ℕ) (with : Bool) (x v d v' d' : List Float) (r : Result A Refusal) → 1 ≤ p → p ≤ 16 → P ≤ 4096 →
    length x ≡ P → length v ≡ p * P → length d ≡ size_if with (p * P) → (told_number r, v', d') ≡ polynomials_call p P with x v d → IsOk r
unfolding polynomials_call polynomials_number
polynomials_taken p P with x v d v' d' r least most few hx hv hd e =
    taken r (ap (λ (t : ℕ × List Float × List Float). t.0) e ∙ rw (
      inside 1 16 p least most,
      le-leb P 4096 few,
      eq-eqb (length x) P hx,
      eq-eqb (length v) (p * P) hv,
      eq-eqb (length d) (size_if with (p * P)) hd,
    ))
