-- Approximation coefficients: what each node of a cell counts for at each point, and the slopes of that; and what the call leaves.
use Rattle.std.specs.Prelude.{Bool, true, false, ◌&&◌, List, [], ℕ, zero, suc, ◌*◌, ◌/◌, ◌%◌, ◌^◌, leb, eqb, Float, length}
use Rattle.common.specs.Digits.{digit}
use Rattle.common.specs.Floats.{times, one₆₄}
use Rattle.common.specs.Matrices.{matrix, column_major}
use Rattle.common.specs.Refusals.{no_dimension, no_order, no_count, wrong_length, no_cell, not_finite}
use Rattle.common.specs.Refusals.{size_if, unless, is_dimension, is_order, is_cell, most_points, left}
use Rattle.coordinates.specs.Coordinates.{all_finite}
use Rattle.axes.specs.Axes.{S, S', on_axes}
use Rattle.products.specs.Products.{others}
use Rattle.coefficients.specs.declared.Lengths.{Lengths}
use Rattle.coefficients.specs.declared.wanted.Wanted.{Wanted}
use Rattle.coefficients.specs.declared.wanted.Wanted.TheVariants.{Values, Gradients}

-- 1 times f 0, times f 1, .. times f (n - 1)
unfoldable pub products : (n : ℕ) → (ℕ → Float) → Float
products zero f = one₆₄
products (suc n) f = times (products n f) (f n)

-- AT REFERENCE COORDINATES: x i a is that of point i on axis a

module _ (D p : ℕ) (polynomials : List Float) (x : (i a : ℕ) → Float) where
  -- S of point i on axis a, at the index there of the node with number k
  abbrev pub factor : (i k a : ℕ) → Float
  factor i k a = S p polynomials (digit p D a k) (x i a)

  -- a value column is 1 times the axis factors in axis order
  unfoldable pub value : (i k : ℕ) → Float
  value i k = products D (factor i k)

  module _ (side : Float) where
    -- and S' there
    abbrev pub slope : (i k a : ℕ) → Float
    slope i k a = S' p side polynomials (digit p D a k) (x i a)

    -- the gradient's column g*N + k starts with S' of axis g, then the other axes in order
    unfoldable pub gradient : (i column : ℕ) → Float
    gradient i c =
        let g = c / p ^ D in
        let k = c % p ^ D in
        others g (slope i k g) D (factor i k)

-- WHAT IS WANTED: values, or values and gradients, which need the cell's side

abbrev pub with_gradients : Wanted → Bool
with_gradients Values = false
with_gradients (Gradients side) = true

-- a side is tested only where there is one
abbrev pub takes_side : Wanted → Bool
takes_side Values = true
takes_side (Gradients side) = is_cell side

-- the memory that is lent to be written: values, gradients, factors, slopes
abbrev pub Memory : Type 0
Memory = List Float × List Float × List Float × List Float

-- What a call that is not refused leaves at coordinates x i a: matrices of one row a point. The last two are room to work in, and end
-- as S and S' of all axes.
unfoldable pub leaves : (D p P : ℕ) → Wanted → (polynomials : List Float) → (x : (i a : ℕ) → Float) → Memory
leaves D p P Values t x = (column_major P (p ^ D) (value D p t x), [], column_major P (D * p) (on_axes (S p t) p x), [])
leaves D p P (Gradients side) t x = (
  column_major P (p ^ D) (value D p t x),
  column_major P (D * p ^ D) (gradient D p t x side),
  column_major P (D * p) (on_axes (S p t) p x),
  column_major P (D * p) (on_axes (S' p side t) p x),
)

-- THE CALL

-- how long the lent buffers are
abbrev pub lengths : (polynomials coordinates : List Float) → Memory → Lengths
lengths t x (v, g, f, d) =
    record {
      coordinates = length x;
      polynomials = length t;
      values = length v;
      gradients = length g;
      factors = length f;
      slopes = length d;
    }

-- every buffer has its length
unfoldable pub lengths_fit : (D p P : ℕ) → (with : Bool) → Lengths → Bool
lengths_fit D p P with l =
    eqb l.coordinates (D * P) && (eqb l.polynomials (p * p) && (eqb l.values (p ^ D * P) &&
    (eqb l.gradients (size_if with (D * p ^ D * P)) && (eqb l.factors (D * p * P) && eqb l.slopes (size_if with (D * p * P))))))

-- a coordinate outside the cell is taken, and one that is not finite is not
unfoldable pub coefficients_number : (D p P : ℕ) → Wanted → (coordinates : List Float) → (fit : Bool) → ℕ
coefficients_number D p P wanted x fit =
    unless (is_dimension D) no_dimension
    (unless (is_order p) no_order
    (unless (leb P most_points) no_count
    (unless fit wrong_length (unless (takes_side wanted) no_cell (unless (all_finite x) not_finite 0)))))

unfoldable pub coefficients_call : (D p P : ℕ) → Wanted → (polynomials coordinates : List Float) → Memory → ℕ × Memory
coefficients_call D p P wanted t x (v, g, f, d) =
    let fit = lengths_fit D p P (with_gradients wanted) (lengths t x (v, g, f, d)) in
    let n = coefficients_number D p P wanted x fit in
    (n, left n (leaves D p P wanted t (matrix P x)) (v, g, f, d))
