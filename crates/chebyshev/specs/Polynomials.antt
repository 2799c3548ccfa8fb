-- The Chebyshev polynomials and their derivatives at points: what the call refuses, and what it leaves.
use Rattle.std.specs.Prelude.{Bool, cond, ◌&&◌, List, [], ℕ, ◌*◌, leb, eqb, Float, length, get_or}
use Rattle.std.specs.Float.{nan}
use Rattle.common.specs.Matrices.{column_major}
use Rattle.common.specs.Refusals.{no_order, no_count, wrong_length, size_if, unless, is_order, most_points, left}
use Rattle.polynomial_columns.specs.Recurrence.{T, T'}

-- one row a point, one column for each j below the order
abbrev pub at_points : (ℕ → Float → Float) → (order rows : ℕ) → (points : List Float) → List Float
at_points f p P points = column_major P p (λ i j. f j (get_or points i nan))

-- THE CALL

unfoldable pub polynomials_number : (p P : ℕ) → (with : Bool) → (points values slopes : ℕ) → ℕ
polynomials_number p P with n v d =
    unless (is_order p) no_order
    (unless (leb P most_points) no_count (unless (eqb n P && (eqb v (p * P) && eqb d (size_if with (p * P)))) wrong_length 0))

-- its number and both buffers after it
unfoldable pub polynomials_call : (p P : ℕ) → (with : Bool) → (points values slopes : List Float) → ℕ × List Float × List Float
polynomials_call p P with points v d = (
  polynomials_number p P with (length points) (length v) (length d),
  left (polynomials_number p P with (length points) (length v) (length d)) (at_points T p P points) v,
  left (polynomials_number p P with (length points) (length v) (length d)) (cond with (at_points T' p P points) []) d,
)
