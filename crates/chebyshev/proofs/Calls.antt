-- What the call's number says, and what the call then answers and leaves. Assumes nothing.
use mathlib.Core.Path.{◌≡◌, refl, ap, ◌∙◌}
use mathlib.Core.Bool.{Bool, cond}
use mathlib.Core.List.{List, [], ◌∷◌}
use Prim.Native.Nat.{ℕ, ◌*◌, ◌<◌, ◌≤◌}
use native.Mathlib.Omega.{arith}
use lib.Dec.{leb}
use lib.Ieee.{Float}
use lib.ListN.{length}
use borrow.Author.Tests.{eqb-true, le-leb, lt-leb, eq-eqb, ne_eqb}
use Rattle.common.specs.Refusals.{size_if, order_number}
use Rattle.common.proofs.Cases.{inside, equal_and}
use Rattle.common.proofs.Limits.{order_in, order_out, left_done, call_refused₂, call_done₂, passed, order_passed}
use Rattle.polynomial_columns.specs.Recurrence.{T, T'}
use Rattle.chebyshev.specs.Polynomials.{at_points, polynomials_number, polynomials_call}

-- the three lengths are as stated
pub record Lengths (p P : ℕ) (with : Bool) (n v d : ℕ) : Type 0 where
  pub points : n ≡ P
  pub values : v ≡ p * P
  pub slopes : d ≡ size_if with (p * P)

module _ (p P : ℕ) (with : Bool) (n v d : ℕ) where
  pub polynomials_order : (order_number p ≡ 0 → ⊥) → order_number p ≡ polynomials_number p P with n v d
  unfolding polynomials_number
  polynomials_order h = (order_out p h).1 ∙ rw (order_out p h).0

  module _ (ok : order_number p ≡ 0) where
    pub polynomials_count : 4096 < P → 3 ≡ polynomials_number p P with n v d
    unfolding polynomials_number
    polynomials_count h = rw (order_in p ok, lt-leb P 4096 h)

    module _ (few : P ≤ 4096) where
      pub polynomials_points : (n ≡ P → ⊥) → 7 ≡ polynomials_number p P with n v d
      unfolding polynomials_number
      polynomials_points h = rw (order_in p ok, le-leb P 4096 few, ne_eqb n P h)

      pub polynomials_values : n ≡ P → (v ≡ p * P → ⊥) → 7 ≡ polynomials_number p P with n v d
      unfolding polynomials_number
      polynomials_values e h = rw (order_in p ok, le-leb P 4096 few, eq-eqb n P e, ne_eqb v (p * P) h)

      pub polynomials_slopes : n ≡ P → v ≡ p * P → (d ≡ size_if with v → ⊥) → 7 ≡ polynomials_number p P with n v d
      unfolding polynomials_number
      polynomials_slopes e e' h =
          rw (order_in p ok, le-leb P 4096 few, eq-eqb n P e, eq-eqb v (p * P) e', ne_eqb d (size_if with (p * P)) (rw e' at h))

      pub polynomials_none : n ≡ P → v ≡ p * P → d ≡ size_if with v → 0 ≡ polynomials_number p P with n v d
      unfolding polynomials_number
      polynomials_none e e' e'' =
          rw (order_in p ok, le-leb P 4096 few, eq-eqb n P e, eq-eqb v (p * P) e', eq-eqb d (size_if with (p * P)) (rw e' at e''))

  pub polynomials_accepted : polynomials_number p P with n v d ≡ 0 → Lengths p P with n v d
  unfolding polynomials_number
  polynomials_accepted z =
      let few = passed (leb P 4096) 2 _ (order_passed p _ z).2 in
      let a = equal_and n P _ (passed _ 6 0 few.1).0 in
      let b = equal_and v (p * P) _ a.1 in
      record { points = a.0; values = b.0; slopes = eqb-true _ _ b.1 }

-- a list with no entries
pub none : (l : List Float) → length l ≡ 0 → l ≡ []
none [] h = refl
none (x ∷ l) h = absurd (omega arith)

module _ (p P : ℕ) (with : Bool) (x v d : List Float) (r : ℕ) (e : r ≡ polynomials_number p P with (length x) (length v) (length d)) where
  pub polynomials_refused : (r ≡ 0 → ⊥) → (r, v, d) ≡ polynomials_call p P with x v d
  unfolding polynomials_call
  polynomials_refused = call_refused₂ r _ (at_points T p P x) v (cond with (at_points T' p P x) []) d e

  pub polynomials_done : (v' d' : List Float) → r ≡ 0 → v' ≡ at_points T p P x → d' ≡ cond with (at_points T' p P x) [] →
      (0, v', d') ≡ polynomials_call p P with x v d
  unfolding polynomials_call
  polynomials_done = call_done₂ r _ (at_points T p P x) v (cond with (at_points T' p P x) []) d e

-- a call with the stated lengths has filled both buffers
pub polynomials_filled : (p P : ℕ) (with : Bool) (x v d v' d' : List Float) (r : ℕ) → 1 ≤ p → p ≤ 16 → P ≤ 4096 →
    length x ≡ P → length v ≡ p * P → length d ≡ size_if with (p * P) → (r, v', d') ≡ polynomials_call p P with x v d →
    (v' ≡ at_points T p P x) × (d' ≡ cond with (at_points T' p P x) [])
unfolding polynomials_call polynomials_number
polynomials_filled p P with x v d v' d' r least most few hx hv hd e =
    let none : polynomials_number p P with (length x) (length v) (length d) ≡ 0 = rw (
      inside 1 16 p least most,
      le-leb P 4096 few,
      eq-eqb (length x) P hx,
      eq-eqb (length v) (p * P) hv,
      eq-eqb (length d)
          (size_if with (p * P)) hd,
    ) in (
      ap (λ (t : ℕ × List Float × List Float). t.1) e ∙ left_done _ _ _ none,
      ap (λ (t : ℕ × List Float × List Float). t.2) e
          ∙ left_done _ _ _ none,
    )
