-- Second derivatives of the Chebyshev polynomials at points: what their call refuses, and what it leaves.
use Rattle.std.specs.Prelude.{◌&&◌, List, ℕ, ◌*◌, leb, eqb, Float, length}
use Rattle.common.specs.Refusals.{no_order, no_count, wrong_length, unless, is_order, most_points, left}
use Rattle.polynomial_columns.specs.Recurrence.{T, T', T''}
use Rattle.chebyshev.specs.Polynomials.{at_points}

-- the memory that is lent to be written: T, T' and T'' at the points
abbrev pub Memory : Type 0
Memory = List Float × List Float × List Float

unfoldable pub second_number : (p P points values slopes bends : ℕ) → ℕ
second_number p P n v d s =
    unless (is_order p) no_order
    (unless (leb P most_points) no_count
    (unless (eqb n P && (eqb v (p * P) && (eqb d (p * P) && eqb s (p * P)))) wrong_length 0))

unfoldable pub second_call : (p P : ℕ) → (points : List Float) → Memory → ℕ × Memory
second_call p P points (v, d, s) =
    let n = second_number p P (length points) (length v) (length d) (length s) in
    (n, left n (at_points T p P points, at_points T' p P points, at_points T'' p P points) (v, d, s))
