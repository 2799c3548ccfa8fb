-- What the private functions speak of; no public contract cites it.
use Rattle.std.specs.Prelude.{◌≡◌, Bool, cond, List, [], ℕ, ◌*◌, ◌/◌, ◌%◌, ◌^◌, Float}
use Rattle.common.specs.Floats.{one₆₄}
use Rattle.common.specs.Matrices.{column_major}
use Rattle.common.specs.Refusals.{size_if}
use Rattle.axes.specs.Axes.{S, S', on_axes}
use Rattle.products.specs.Products.{started_of}
use Rattle.coefficients.specs.Coefficients.{value, gradient, Memory}
use Rattle.coefficients.specs.declared.Lengths.{Lengths}
use Rattle.coefficients.specs.declared.wanted.Wanted.{Wanted}
use Rattle.coefficients.specs.declared.wanted.Wanted.TheVariants.{Values, Gradients}

-- row i of the gradient's column c, read from the slopes and the factors
abbrev pub gradient_of : (D p P : ℕ) → (slopes factors : List Float) → (i c : ℕ) → Float
gradient_of D p P slopes factors i c = started_of D p P (c / p ^ D) slopes factors i (c % p ^ D)

-- THE CALL

-- the side of what is wanted; where there is none it is not read
abbrev pub side_of : Wanted → Float
side_of Values = one₆₄
side_of (Gradients side) = side

-- what is filled, by a side and whether gradients are wanted
abbrev pub filled : (D p P : ℕ) → (side : Float) → (with : Bool) → (polynomials : List Float) → (x : (i a : ℕ) → Float) → Memory
filled D p P side with t x = (
  column_major P (p ^ D) (value D p t x),
  cond with (column_major P (D * p ^ D) (gradient D p t x side)) [],
  column_major P (D * p) (on_axes (S p t) p x),
  cond with (column_major P (D * p) (on_axes (S' p side t) p x)) [],
)

-- how long the lent buffers must be
abbrev pub lengths_of : (D p P : ℕ) → (with : Bool) → Lengths
lengths_of D p P with =
    record {
      coordinates = D * P;
      polynomials = p * p;
      values = p ^ D * P;
      gradients = size_if with (D * p ^ D * P);
      factors = D * p * P;
      slopes = size_if with (D * p * P);
    }

-- the lengths are as stated
pub record Admitted (D p P : ℕ) (with : Bool) (lent : Lengths) : Type 0 where
  pub coordinates : lent.coordinates ≡ D * P
  pub polynomials : lent.polynomials ≡ p * p
  pub values : lent.values ≡ p ^ D * P
  pub gradients : lent.gradients ≡ size_if with (D * p ^ D * P)
  pub factors : lent.factors ≡ D * p * P
  pub slopes : lent.slopes ≡ size_if with (D * p * P)
