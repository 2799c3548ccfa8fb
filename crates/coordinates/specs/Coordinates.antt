-- Coordinates: a physical one says where a point lies, a reference one where it lies in its cell, from -1 to 1.
use Rattle.std.specs.Prelude.{Bool, ◌&&◌, List, ℕ, Float, length, get_or}
use Rattle.std.specs.Float.{nan, binary64}
use Rattle.std.specs.Float.Ieee.{le, of_bits}
use Rattle.std.specs.Float.Ieee.Scale.{finite}
use Rattle.common.specs.Floats.{minus, times, over, half₆₄, size}
use Rattle.common.specs.Tests.{each}
use Rattle.common.specs.Matrices.{matrix}
use Rattle.common.specs.Refusals.{no_cell, not_finite, out_of_cell, unless, is_cell}

unfoldable pub all_finite : List Float → Bool
all_finite list = each (length list) (λ i. finite (get_or list i nan))

-- a physical coordinate in a cell becomes a reference coordinate: (point - centre)/(side*0.5)
unfoldable pub coordinate_in : (side centre point : Float) → Float
coordinate_in side centre point = over (minus point centre) (times side half₆₄)

-- the reference coordinate of point i on axis a
abbrev pub coordinate : (rows : ℕ) → (side : Float) → (centre points : List Float) → (i a : ℕ) → Float
coordinate P side centre points i a = coordinate_in side (get_or centre a nan) (matrix P points i a)

-- IN THE CELL: a reference coordinate is at most 1 + 2 ^ -20 in size
abbrev pub border₆₄ : Float
border₆₄ = of_bits binary64 0x3ff0000100000000

unfoldable pub in_cell : (x : Float) → Bool
in_cell x = le (size x) border₆₄

-- all points are, on all axes: x i a is the reference coordinate of point i on axis a
unfoldable pub all_in_cell : (D P : ℕ) → (x : (i a : ℕ) → Float) → Bool
all_in_cell D P x = each D (λ a. each P (λ i. in_cell (x i a)))

-- THE NUMBER that a cell, its centre and the points bring, or 0
unfoldable pub points_number : (D P : ℕ) → (side : Float) → (centre points : List Float) → ℕ
points_number D P side centre points =
    unless (is_cell side) no_cell
    (unless (all_finite points && all_finite centre) not_finite (unless (all_in_cell D P (coordinate P side centre points)) out_of_cell 0))
