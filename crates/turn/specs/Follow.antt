-- Where one node of the reference block goes, and which node comes to its place.
use Rattle.std.specs.Prelude.{ℕ, ◌+◌, ◌-◌, ◌^◌, ltb, ℤ}
use Rattle.std.proofs.Math.Option.{Option}
use Rattle.common.specs.Refusals.{no_dimension, no_order, no_entry, no_case, not_zero, unless, is_dimension, is_order, answer}
use Rattle.vectors.specs.Vectors.{sizes, case, at_most}
use Rattle.vectors.specs.LookUps.{entries}
use Rattle.vectors.specs.declared.Vector.{Vector}
use Rattle.turn_tables.specs.Turned.{turned, returned}
use Rattle.turn.specs.declared.follow.Moves.{Moves}

-- a dimension, an order, the vector's first entries, a node, and the entries past them: the lowest number wins
unfoldable pub follow_number : (D p : ℕ) → (sizes : ℕ → ℕ) → (n : ℕ) → ℕ
follow_number D p s n =
    unless (is_dimension D) no_dimension
    (unless (is_order p) no_order
    (unless (at_most 3 D s) no_entry (unless (ltb n (p ^ D)) no_case (unless (at_most 0 (3 - D) (λ a. s (D + a))) not_zero 0))))

-- the entries at the node of both tables of the vector's case
unfoldable pub moves_of : (D p : ℕ) → (ℕ → ℤ) → (n : ℕ) → Moves
moves_of D p v n = record { image = turned D p (case D v) n; origin = returned D p (case D v) n }

unfoldable pub follow_call : (D p : ℕ) → Vector → (n : ℕ) → ℕ × Option Moves
follow_call D p v n = answer (follow_number D p (sizes (entries v)) n) (moves_of D p (entries v) n)
