-- What the call's number says, by the tests that lead to it, and what the call then answers and leaves. Assumes nothing.
use mathlib.Core.Path.{◌≡◌, sym, ◌∙◌}
use mathlib.Core.Bool.{Bool, true, false}
use mathlib.Core.List.{List}
use Prim.Native.Nat.{ℕ, ◌*◌, ◌^◌, ◌≤◌}
use lib.Dec.{leb}
use lib.Ieee.{Float}
use borrow.Author.Tests.{eqb-true, leb-true, le-leb}
use Rattle.common.specs.Matrices.{matrix}
use Rattle.common.specs.Refusals.{size_if, Shape, most_points}
use Rattle.common.proofs.Cases.{equal_and}
use Rattle.common.proofs.Limits.{shape_past, call_refused, call_done, passed, shape_passed}
use Rattle.coordinates.specs.Coordinates.{all_finite}
use Rattle.axes.specs.Axes.{grid_number}
use Rattle.axes.proofs.Limits.{grid_out}
use Rattle.coefficients.specs.Coefficients.{with_gradients, takes_side, lengths, lengths_fit, coefficients_number, Memory, leaves}
use Rattle.coefficients.specs.Coefficients.{coefficients_call}
use Rattle.coefficients.specs.Working.{Admitted}
use Rattle.coefficients.specs.declared.Lengths.{Lengths}
use Rattle.coefficients.specs.declared.wanted.Wanted.{Wanted}

module _ (D p P : ℕ) (wanted : Wanted) (x : List Float) (fit : Bool) where
  pub number_grid : (grid_number D p P ≡ 0 → ⊥) → grid_number D p P ≡ coefficients_number D p P wanted x fit
  unfolding coefficients_number
  number_grid h = grid_out D p P _ h

  module _ (s : Shape D p) where
    module _ (few : P ≤ most_points) where
      pub number_length : fit ≡ false → 7 ≡ coefficients_number D p P wanted x fit
      unfolding coefficients_number
      number_length f = sym (shape_past D p _ s ∙ rw (le-leb P most_points few, f))

      module _ (f : fit ≡ true) where
        pub number_side : takes_side wanted ≡ false → 8 ≡ coefficients_number D p P wanted x fit
        unfolding coefficients_number
        number_side h = sym (shape_past D p _ s ∙ rw (le-leb P most_points few, f, h))

        module _ (side : takes_side wanted ≡ true) where
          pub number_finite : all_finite x ≡ false → 9 ≡ coefficients_number D p P wanted x fit
          unfolding coefficients_number
          number_finite h = sym (shape_past D p _ s ∙ rw (le-leb P most_points few, f, side, h))

          pub number_none : all_finite x ≡ true → 0 ≡ coefficients_number D p P wanted x fit
          unfolding coefficients_number
          number_none h = sym (shape_past D p _ s ∙ rw (le-leb P most_points few, f, side, h))

  -- not refused: the shape, the count and the lengths are right
  pub number_taken : coefficients_number D p P wanted x fit ≡ 0 → Shape D p × (P ≤ most_points) × (fit ≡ true)
  unfolding coefficients_number
  number_taken z =
      let s = shape_passed D p _ z in
      let few = passed (leb P most_points) 2 _ s.1 in
      (s.0, leb-true P most_points few.0, (passed fit 6 _ few.1).0)

module _ (D p P : ℕ) (with : Bool) (lent : Lengths) where
  -- the lengths are as stated
  pub admitted : lengths_fit D p P with lent ≡ true → Admitted D p P with lent
  unfolding lengths_fit
  admitted h =
      let one = equal_and lent.coordinates (D * P) _ h in
      let two = equal_and lent.polynomials (p * p) _ one.1 in
      let three = equal_and lent.values (p ^ D * P) _ two.1 in
      let four = equal_and lent.gradients (size_if with (D * p ^ D * P)) _ three.1 in
      let five = equal_and lent.factors (D * p * P) _ four.1 in
      record {
        coordinates = one.0;
        polynomials = two.0;
        values = three.0;
        gradients = four.0;
        factors = five.0;
        slopes = eqb-true _ _ five.1;
      }

-- THE CALL

module _ (D p P : ℕ) (wanted : Wanted) (t x v g f d : List Float) where
  -- not refused: the lengths are as stated
  pub call_admitted : (coefficients_call D p P wanted t x (v, g, f, d)).0 ≡ 0 →
      Admitted D p P (with_gradients wanted) (lengths t x (v, g, f, d))
  unfolding coefficients_call
  call_admitted z =
      let h = number_taken D p P wanted x (lengths_fit D p P (with_gradients wanted) (lengths t x (v, g, f, d))) z in
      admitted D p P (with_gradients wanted) (lengths t x (v, g, f, d)) h.2

  module _ (r : ℕ) (e : r ≡ (coefficients_call D p P wanted t x (v, g, f, d)).0) where
    pub coefficients_refused : (r ≡ 0 → ⊥) → (r, (v, g, f, d)) ≡ coefficients_call D p P wanted t x (v, g, f, d)
    unfolding coefficients_call
    coefficients_refused = call_refused r _ (leaves D p P wanted t (matrix P x)) (v, g, f, d) e

    pub coefficients_done : (m : Memory) → r ≡ 0 → m ≡ leaves D p P wanted t (matrix P x) →
        (0, m) ≡ coefficients_call D p P wanted t x (v, g, f, d)
    unfolding coefficients_call
    coefficients_done m = call_done r _ (leaves D p P wanted t (matrix P x)) (v, g, f, d) e m
