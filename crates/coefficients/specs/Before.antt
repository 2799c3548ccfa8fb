-- One call that scales points and finds their coefficients, as the base had it before it became two (E7). It stays as what the two are held
-- to, and as what a call above both can be told by.
use Rattle.std.specs.Prelude.{Bool, cond, ◌&&◌, List, [], ℕ, ◌*◌, ◌^◌, leb, eqb, Float, length}
use Rattle.common.specs.Matrices.{column_major}
use Rattle.common.specs.Refusals.{no_dimension, no_order, no_count, wrong_length, size_if, unless, is_dimension, is_order, most_points, left}
use Rattle.coordinates.specs.Coordinates.{coordinate, points_number}
use Rattle.axes.specs.Axes.{S, S', on_axes}
use Rattle.coefficients.specs.Coefficients.{value, gradient}

-- the memory that is lent to be written: points, values, gradients, factors, slopes
abbrev pub Memory : Type 0
Memory = List Float × List Float × List Float × List Float × List Float

unfoldable pub leaves : (D p P : ℕ) → (side : Float) → (with : Bool) → (polynomials : List Float) → (x : (i a : ℕ) → Float) → Memory
leaves D p P side with t x = (
  column_major P D x,
  column_major P (p ^ D) (value D p t x),
  cond with (column_major P (D * p ^ D) (gradient D p t x side)) [],
  column_major P (D * p) (on_axes (S p t) p x),
  cond with (column_major P (D * p) (on_axes (S' p side t) p x)) [],
)

-- every buffer has its length
unfoldable pub lengths_fit : (D p P : ℕ) → (with : Bool) → (centre polynomials : List Float) → Memory → Bool
lengths_fit D p P with c t (x, v, g, f, d) =
    eqb (length x) (D * P) && (eqb (length c) D && (eqb (length t) (p * p) && (eqb (length v) (p ^ D * P) &&
    (eqb (length g) (size_if with (D * p ^ D * P)) && (eqb (length f) (D * p * P) && eqb (length d) (size_if with (D * p * P)))))))

unfoldable pub coefficients_number : (D p P : ℕ) → (side : Float) → (centre points : List Float) → (fit : Bool) → ℕ
coefficients_number D p P side centre points fit =
    unless (is_dimension D) no_dimension
    (unless (is_order p) no_order
    (unless (leb P most_points) no_count
    (unless fit wrong_length (points_number D P side centre points))))

unfoldable pub coefficients_call : (D p P : ℕ) → (side : Float) → (with : Bool) → (centre polynomials : List Float) → Memory → ℕ × Memory
coefficients_call D p P side with centre t (x, v, g, f, d) =
    let n = coefficients_number D p P side centre x (lengths_fit D p P with centre t (x, v, g, f, d)) in
    (n, left n (leaves D p P side with t (coordinate P side centre x)) (x, v, g, f, d))
