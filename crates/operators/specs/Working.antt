-- What the private functions speak of; no public contract cites it.
use Rattle.std.specs.Prelude.{List, ℕ, Float}
use Rattle.common.specs.Floats.{times, sums}
use Rattle.common.specs.Matrices.{matrix}
use Rattle.polynomial_columns.specs.Recurrence.{T}

-- term s of row i, for a child node x; and the sum of the row's first k terms
abbrev pub term_of : (p : ℕ) → (polynomials : List Float) → (x : Float) → (i s : ℕ) → Float
term_of p polynomials x i s = times (matrix p polynomials i s) (T s x)

abbrev pub part_of : (p : ℕ) → (polynomials : List Float) → (x : Float) → (k i : ℕ) → Float
part_of p polynomials x k i = sums k (term_of p polynomials x i)
