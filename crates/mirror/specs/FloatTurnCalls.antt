-- DEMAND 3 FOR FLOATS, OF THE CALLS: what five calls answer and leave for a far vector; proofs/FloatCalls.antt proves it.
use Rattle.std.specs.Prelude.{◌≡◌, Ok, List, ℕ, ◌*◌, ◌^◌, ◌<◌, length, Float}
use Rattle.std.specs.Float.Ieee.{of_int}
use Rattle.std.specs.Float.{binary64}
use Rattle.common.specs.Floats.{minus}
use Rattle.common.specs.Matrices.{matrix}
use Rattle.common.specs.Numbers.{told}
use Rattle.floats.specs.Sizes.{SameSize}
use Rattle.vectors.specs.declared.Known.{Known}
use Rattle.vectors.specs.declared.Vector.{Vector}
use Rattle.vectors.specs.LookUps.{entries, look_up}
use Rattle.turn_tables.specs.Turned.{turned}
use Rattle.turn.specs.Turns.{matching}
use Rattle.turn.specs.Tables.{table_call}
use Rattle.turn.specs.TurnCalls.{at}
use Rattle.nodes.specs.Sets.{set_call}
use Rattle.point_columns.specs.Blocks.{on_source, node_on}
use Rattle.points.specs.Points.{target_call, source_call}

-- lists as the calls take them
pub record Lent (D p : ℕ) (nodes targets sources : List Float) (table : List ℕ) : Type 0 where
  pub nodes_fit : length nodes ≡ p
  pub targets_fit : length targets ≡ D * p ^ D
  pub sources_fit : length sources ≡ D * p ^ D
  pub table_fits : length table ≡ p ^ D

-- Before the turn, source and target points stand in memory, those of the reference block. After it the target points are the same
-- ones, and a source point is what the rule of source points gives with the vector's own entry.
pub record FloatCallsAreRight (D p : ℕ) (side : Float) (v : Vector) (nodes targets sources : List Float) (table : List ℕ) : Type 0 where
  -- `look_up` answers Ok
  pub known : Known
  pub looked_up : look_up D v ≡ told (Ok known)
  -- `generate_node_set` of set 1, the two calls for points and `combined_permutation` of the vector's case answer 0
  pub exact : List Float
  pub generated : set_call p 1 nodes ≡ (0, exact)
  pub target : List Float
  pub targeted : target_call D p side exact targets ≡ (0, target)
  pub source : List Float
  pub sourced : source_call D p side known.reference exact sources ≡ (0, source)
  pub filled : List ℕ
  pub combined : table_call D p known.case (turned D p known.case) table ≡ (0, filled)
  -- and the differences of these coordinates have the same sizes, bit for bit, before and after the turn
  pub right : (s t m : ℕ) → s < p ^ D → t < p ^ D → m < D →
      SameSize binary64 (minus (matrix (p ^ D) source s m) (matrix (p ^ D) target t m))
      (minus
      (on_source side (of_int binary64 (entries v (matching D (entries v) m))) (node_on D p (matching D (entries v) m) exact (at filled s)))
      (matrix (p ^ D) target (at filled t) (matching D (entries v) m)))
