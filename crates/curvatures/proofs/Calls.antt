-- What the call's number says, by the tests that lead to it, and what the call then answers and leaves. Assumes nothing.
use mathlib.Core.Path.{◌≡◌, sym, ◌∙◌}
use mathlib.Core.Bool.{true, false}
use mathlib.Core.List.{List}
use Prim.Native.Nat.{ℕ, ◌≤◌}
use lib.Dec.{leb}
use lib.Ieee.{Float}
use borrow.Author.Tests.{eqb-true, leb-true, le-leb}
use Rattle.common.specs.Matrices.{matrix}
use Rattle.common.specs.Refusals.{Shape, most_points, is_cell}
use Rattle.common.proofs.Cases.{equal_and}
use Rattle.common.proofs.Limits.{shape_past, call_refused, call_done, passed, shape_passed}
use Rattle.coordinates.specs.Coordinates.{all_finite}
use Rattle.axes.specs.Axes.{grid_number}
use Rattle.axes.proofs.Limits.{grid_out}
use Rattle.curvatures.specs.Curvatures.{Memory, leaves, lengths_of, lengths, alike, curvature_number, curvature_call}
use Rattle.curvatures.specs.declared.Lengths.{Lengths}

module _ (D p P : ℕ) (side : Float) (x : List Float) (lent : Lengths) where
  pub number_grid : (grid_number D p P ≡ 0 → ⊥) → grid_number D p P ≡ curvature_number D p P side x lent
  unfolding curvature_number
  number_grid h = grid_out D p P _ h

  module _ (s : Shape D p) where
    module _ (few : P ≤ most_points) where
      pub number_length : alike lent (lengths_of D p P) ≡ false → 7 ≡ curvature_number D p P side x lent
      unfolding curvature_number
      number_length f = sym (shape_past D p _ s ∙ rw (le-leb P most_points few, f))

      module _ (f : alike lent (lengths_of D p P) ≡ true) where
        pub number_side : is_cell side ≡ false → 8 ≡ curvature_number D p P side x lent
        unfolding curvature_number
        number_side h = sym (shape_past D p _ s ∙ rw (le-leb P most_points few, f, h))

        module _ (cell : is_cell side ≡ true) where
          pub number_finite : all_finite x ≡ false → 9 ≡ curvature_number D p P side x lent
          unfolding curvature_number
          number_finite h = sym (shape_past D p _ s ∙ rw (le-leb P most_points few, f, cell, h))

          pub number_none : all_finite x ≡ true → 0 ≡ curvature_number D p P side x lent
          unfolding curvature_number
          number_none h = sym (shape_past D p _ s ∙ rw (le-leb P most_points few, f, cell, h))

-- lengths that are alike are the same
same_lengths : (l w : Lengths) → alike l w ≡ true → l ≡ w
unfolding alike
same_lengths l w h =
    let one = equal_and l.coordinates w.coordinates _ h in
    let two = equal_and l.polynomials w.polynomials _ one.1 in
    let three = equal_and l.curvatures w.curvatures _ two.1 in
    let four = equal_and l.factors w.factors _ three.1 in
    let five = equal_and l.slopes w.slopes _ four.1 in
    let six = equal_and l.bends w.bends _ five.1 in
    let seven = eqb-true l.room w.room six.1 in
    rw (one.0, two.0, three.0, four.0, five.0, six.0, seven)

-- THE CALL

module _ (D p P : ℕ) (side : Float) (t x : List Float) (m : Memory) where
  -- not refused: the shape, the count and the lengths are right
  pub call_admitted : curvature_number D p P side x (lengths t x m) ≡ 0 →
      Shape D p × (P ≤ most_points) × (lengths t x m ≡ lengths_of D p P)
  unfolding curvature_number
  call_admitted z =
      let s = shape_passed D p _ z in
      let few = passed (leb P most_points) 2 _ s.1 in
      (s.0, leb-true P most_points few.0, same_lengths (lengths t x m) (lengths_of D p P) (passed _ 6 _ few.1).0)

  module _ (r : ℕ) (e : r ≡ curvature_number D p P side x (lengths t x m)) where
    pub curvature_refused : (r ≡ 0 → ⊥) → (r, m) ≡ curvature_call D p P side t x m
    unfolding curvature_call
    curvature_refused = call_refused {A = Memory} r _ (leaves D p P side t (matrix P x)) m e

    pub curvature_done : (m' : Memory) → r ≡ 0 → m' ≡ leaves D p P side t (matrix P x) → (0, m') ≡ curvature_call D p P side t x m
    unfolding curvature_call
    curvature_done m' = call_done {A = Memory} r _ (leaves D p P side t (matrix P x)) m e m'
