-- The call that scales points: the number that it answers, and what it leaves.
use Rattle.std.specs.Prelude.{Bool, ◌&&◌, List, ℕ, ◌*◌, leb, eqb, Float, length}
use Rattle.common.specs.Matrices.{column_major}
use Rattle.common.specs.Refusals.{no_dimension, no_count, wrong_length, unless, is_dimension, most_points, left}
use Rattle.coordinates.specs.Coordinates.{coordinate, points_number}

-- an entry an axis in the centre, and a row a point
unfoldable pub scaling_fits : (D P : ℕ) → (centre points : List Float) → Bool
scaling_fits D P centre points = eqb (length centre) D && eqb (length points) (D * P)

unfoldable pub scaling_number : (D P : ℕ) → (side : Float) → (centre points : List Float) → ℕ
scaling_number D P side centre points =
    unless (is_dimension D) no_dimension
    (unless (leb P most_points) no_count
    (unless (scaling_fits D P centre points) wrong_length (points_number D P side centre points)))

-- the points' reference coordinates in place of them
unfoldable pub scale_call : (D P : ℕ) → (side : Float) → (centre points : List Float) → ℕ × List Float
scale_call D P side centre points =
    let n = scaling_number D P side centre points in
    (n, left n (column_major P D (coordinate P side centre points)) points)
