-- What the number of a scaling says, by the tests that lead to it, and what the call then answers and leaves. Assumes nothing.
use mathlib.Core.Path.{◌≡◌}
use mathlib.Core.List.{List}
use Prim.Native.Nat.{ℕ, ◌*◌, ◌<◌, ◌≤◌}
use lib.Dec.{leb}
use lib.Ieee.{Float}
use lib.ListN.{length}
use borrow.Author.Tests.{eq-eqb, ne_eqb, eqb-true, leb-true, le-leb, lt-leb}
use Rattle.common.specs.Matrices.{column_major}
use Rattle.common.specs.Refusals.{is_dimension, most_points, shape_number}
use Rattle.common.proofs.Cases.{inside_low, inside_high, equal_and}
use Rattle.common.proofs.Limits.{shape_in, shape_out, passed, call_refused, call_done}
use Rattle.coordinates.specs.Coordinates.{coordinate, points_number}
use Rattle.coordinates.specs.Scaling.{scaling_fits, scaling_number, scale_call}

-- a scaling that is not refused
pub record Taken (D P : ℕ) (side : Float) (centre points : List Float) : Type 0 where
  pub dimension_least : 1 ≤ D
  pub dimension_most : D ≤ 3
  pub few : P ≤ most_points
  pub axes : length centre ≡ D
  pub long : length points ≡ D * P
  pub number : points_number D P side centre points ≡ 0

module _ (D P : ℕ) (side : Float) (centre points : List Float) where
  -- THE TESTS, from the first on

  pub scaling_shape : (shape_number D 1 ≡ 0 → ⊥) → shape_number D 1 ≡ scaling_number D P side centre points
  unfolding scaling_number
  scaling_shape h = shape_out D 1 _ h

  module _ (d : shape_number D 1 ≡ 0) where
    pub scaling_count : most_points < P → 3 ≡ scaling_number D P side centre points
    unfolding scaling_number
    scaling_count h = rw ((shape_in D 1 d).0, lt-leb P most_points h)

    module _ (few : P ≤ most_points) where
      pub scaling_centre : (length centre ≡ D → ⊥) → 7 ≡ scaling_number D P side centre points
      unfolding scaling_number scaling_fits
      scaling_centre h = rw ((shape_in D 1 d).0, le-leb P most_points few, ne_eqb _ _ h)

      module _ (axes : length centre ≡ D) where
        pub scaling_points : (length points ≡ D * P → ⊥) → 7 ≡ scaling_number D P side centre points
        unfolding scaling_number scaling_fits
        scaling_points h = rw ((shape_in D 1 d).0, le-leb P most_points few, eq-eqb _ _ axes, ne_eqb _ _ h)

        pub scaling_rest : length points ≡ D * P → points_number D P side centre points ≡ scaling_number D P side centre points
        unfolding scaling_number scaling_fits
        scaling_rest h = rw ((shape_in D 1 d).0, le-leb P most_points few, eq-eqb _ _ axes, eq-eqb _ _ h)

  -- WHAT THE NUMBER SAYS

  pub scaling_taken : scaling_number D P side centre points ≡ 0 → Taken D P side centre points
  unfolding scaling_number scaling_fits
  scaling_taken z =
      let one = passed (is_dimension D) 0 _ z in
      let two = passed (leb P most_points) 2 _ one.1 in
      let three = passed _ 6 _ two.1 in
      let axes = equal_and (length centre) D _ three.0 in
      record {
        dimension_least = inside_low 1 3 D one.0;
        dimension_most = inside_high 1 3 D one.0;
        few = leb-true P most_points two.0;
        axes = axes.0;
        long = eqb-true _ _ axes.1;
        number = three.1;
      }

  -- THE CALL

  module _ (r : ℕ) (e : r ≡ scaling_number D P side centre points) where
    pub scale_refused : (r ≡ 0 → ⊥) → (r, points) ≡ scale_call D P side centre points
    unfolding scale_call
    scale_refused = call_refused r _ (column_major P D (coordinate P side centre points)) points e

    pub scale_done : (after : List Float) → r ≡ 0 → after ≡ column_major P D (coordinate P side centre points) →
        (0, after) ≡ scale_call D P side centre points
    unfolding scale_call
    scale_done after = call_done r _ (column_major P D (coordinate P side centre points)) points e after
