-- What refusal 11 says: of a scaling that is done, and of one that refuses. proofs/Cells.antt proves both of every call.
use Rattle.std.specs.Prelude.{◌≡◌, Bool, true, false, cond, List, ℕ, ◌<◌, Float, get_or}
use Rattle.std.specs.Float.{nan}
use Rattle.std.specs.Float.Ieee.{le}
use Rattle.common.specs.Floats.{size}
use Rattle.common.specs.Matrices.{matrix, column_major}
use Rattle.common.specs.Refusals.{out_of_cell}
use Rattle.coordinates.specs.Coordinates.{coordinate, border₆₄, in_cell}
use Rattle.coordinates.specs.Scaling.{scale_call}

-- some of the points moved to the centre
unfoldable pub centred : (D P : ℕ) → (moved : ℕ → Bool) → (centre points : List Float) → List Float
centred D P moved centre points = column_major P D (λ i a. cond (moved i) (get_or centre a nan) (matrix P points i a))

module _ (D P : ℕ) (side : Float) (centre points : List Float) where
  -- a call that answers 0 leaves every reference coordinate at most 1 + 2 ^ -20 in size
  abbrev pub LeftInCell : Type 0
  LeftInCell =
      (leaves : List Float) → (0, leaves) ≡ scale_call D P side centre points →
      (i a : ℕ) → i < P → a < D → le (size (matrix P leaves i a)) border₆₄ ≡ true

  -- a call that answers 11 does so for the places of points alone: with those that are out of the cell moved to the centre, it answers 0
  abbrev pub RefusedForPlaces : Type 0
  RefusedForPlaces =
      (moved : ℕ → Bool) → (scale_call D P side centre points).0 ≡ out_of_cell →
      ((i a : ℕ) → i < P → a < D → moved i ≡ false → in_cell (coordinate P side centre points i a) ≡ true) →
      (scale_call D P side centre (centred D P moved centre points)).0 ≡ 0
