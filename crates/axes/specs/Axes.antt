-- What the coefficients need of an axis: S and S' at a reference coordinate.
use Rattle.std.specs.Prelude.{◌≡◌, Bool, List, ℕ, ◌+◌, ◌*◌, ◌/◌, ◌%◌, ◌≤◌, leb, Float}
use Rattle.common.specs.Floats.{minus, times, over, one₆₄, two₆₄, float, inner, sums}
use Rattle.common.specs.Lists.{stretch}
use Rattle.common.specs.Matrices.{cell, matrix}
use Rattle.common.specs.Refusals.{no_dimension, no_order, no_count, unless, is_dimension, is_order, most_points, size_if}
use Rattle.polynomial_columns.specs.Recurrence.{T, T'}

-- S of a sum: (sum*2 - 1)/p; and S': (sum*(2/p))*(2/side)
unfoldable pub factor_of : (p : ℕ) → (sum : Float) → Float
factor_of p sum = over (minus (times sum two₆₄) one₆₄) (float p)

unfoldable pub slope_of : (p : ℕ) → (side sum : Float) → Float
slope_of p side sum = times (times sum (over two₆₄ (float p))) (over two₆₄ side)

-- S and S' of node n at a reference coordinate x: the sum is the product of T, or T', at x with T at the node
unfoldable pub S : (p : ℕ) → (polynomials : List Float) → (n : ℕ) → (x : Float) → Float
S p polynomials n x = factor_of p (inner p (λ k. T k x) (matrix p polynomials n))

unfoldable pub S' : (p : ℕ) → (side : Float) → (polynomials : List Float) → (n : ℕ) → (x : Float) → Float
S' p side polynomials n x = slope_of p side (inner p (λ k. T' k x) (matrix p polynomials n))

-- one of them on all axes, at reference coordinates x i a: column a*p + n is node n of axis a
abbrev pub on_axes : (f : (n : ℕ) → Float → Float) → (p : ℕ) → (x : (i a : ℕ) → Float) → (i column : ℕ) → Float
on_axes f p x i c = f (c % p) (x i (c / p))

-- THE SUMS before they are finished

-- row i of the product of polynomials at P points, column by column, with those at node n: its term k, and the sum
abbrev pub term_of : (p P : ℕ) → (columns polynomials : List Float) → (n i k : ℕ) → Float
term_of p P columns polynomials n i k = times (matrix P columns i k) (matrix p polynomials n k)

abbrev pub sum_of : (p P : ℕ) → (columns polynomials : List Float) → (i n : ℕ) → Float
sum_of p P columns polynomials i n = sums p (term_of p P columns polynomials n i)

-- all of them, one column a node, by their places
abbrev pub sums_of : (p P : ℕ) → (columns polynomials : List Float) → (k : ℕ) → Float
sums_of p P columns polynomials = cell P (sum_of p P columns polynomials)

-- what f makes of them, in place of a stretch
abbrev pub made_at : (f : Float → Float) → (at p P : ℕ) → (columns polynomials : List Float) → List Float → List Float
made_at f at p P columns polynomials = stretch at (p * P) (λ k. f (sums_of p P columns polynomials k))

-- The lengths with which the columns of one axis are filled, from place `at` on: of polynomials, node polynomials and the buffer.
pub record ColumnsFit (p P at c t l : ℕ) : Type 0 where
  pub columns : c ≡ p * P
  pub polynomials : t ≡ p * p
  pub room : at + p * P ≤ l

-- THE NUMBER that a shape and so many points bring, or 0
unfoldable pub grid_number : (D p P : ℕ) → ℕ
grid_number D p P =
    unless (is_dimension D) no_dimension (unless (is_order p) no_order (unless (leb P most_points) no_count 0))

-- The lengths with which S and S' of all axes are filled: of points, node polynomials, room to work in, factors and slopes.
pub record AxesFit (D p P : ℕ) (with : Bool) (n t v g f d : ℕ) : Type 0 where
  pub points : n ≡ D * P
  pub polynomials : t ≡ p * p
  pub values : p * P ≤ v
  pub gradients : size_if with (p * P) ≤ g
  pub factors : f ≡ D * p * P
  pub slopes : d ≡ size_if with (D * p * P)
