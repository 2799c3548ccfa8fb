-- The one-dimensional operators from a child's nodes to its parent's: p rows, and p columns each for the lower and the upper child.
use Rattle.std.specs.Prelude.{cond, ◌&&◌, List, ℕ, ◌+◌, ◌-◌, ◌*◌, ltb, eqb, Float, length, get_or}
use Rattle.std.specs.Float.{nan}
use Rattle.common.specs.Floats.{plus, minus, times, over, one₆₄, two₆₄, half₆₄, float, inner}
use Rattle.common.specs.Matrices.{column_major}
use Rattle.common.specs.Refusals.{no_order, wrong_length, unless, is_order, left}
use Rattle.common.specs.Matrices.{matrix}
use Rattle.polynomial_columns.specs.Recurrence.{T}

-- child nodes are (x-1)*0.5, then (x+1)*0.5
unfoldable pub child_node : (p : ℕ) → (nodes : List Float) → (c : ℕ) → Float
child_node p nodes c =
    cond (ltb c p) (times (minus (get_or nodes c nan) one₆₄) half₆₄) (times (plus (get_or nodes (c - p) nan) one₆₄) half₆₄)

-- (sum of T_k(node)*T_k(child)) * (2/p), less 1/p
unfoldable pub operator : (p : ℕ) → (nodes polynomials : List Float) → (i c : ℕ) → Float
operator p nodes polynomials i c =
    minus (times (inner p (matrix p polynomials i) (λ k. T k (child_node p nodes c))) (over two₆₄ (float p))) (over one₆₄ (float p))

-- THE CALL

unfoldable pub operators_number : (p nodes polynomials operators : ℕ) → ℕ
operators_number p n t o =
    unless (is_order p) no_order (unless (eqb n p && (eqb t (p * p) && eqb o ((p + p) * p))) wrong_length 0)

unfoldable pub operators_call : (p : ℕ) → (nodes polynomials operators : List Float) → ℕ × List Float
operators_call p n t o = (
  operators_number p (length n) (length t) (length o),
  left (operators_number p (length n) (length t) (length o)) (column_major p (p + p) (operator p n t)) o,
)
