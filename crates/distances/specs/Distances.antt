-- Distances between the source points of a block at a reference vector and the target points, as a block of samples; and what the call
-- leaves.
use Rattle.std.specs.Prelude.{Bool, ◌&&◌, List, ℕ, zero, suc, ◌-◌, ◌*◌, ◌^◌, leb, ltb, eqb, Float, length}
use Rattle.common.specs.Floats.{plus, minus, times}
use Rattle.common.specs.Matrices.{column_major}
use Rattle.common.specs.Refusals.{no_dimension, no_order, no_count, no_case, wrong_length, no_cell, unless, is_dimension, is_order, is_cell}
use Rattle.common.specs.Refusals.{most_entries, left}
use Rattle.vectors.specs.Vectors.{references}
use Rattle.point_columns.specs.Blocks.{points_of}
use Rattle.points.specs.Points.{target_point, source_point}
use Rattle.roots.specs.Values.{root}
use Rattle.distances.specs.declared.Lengths.{Lengths}

-- the difference on one axis, source less target, squared
abbrev pub apart : (source target : Float) → Float
apart s t = times (minus s t) (minus s t)

-- f 0, f 1, .. f n added in this order, from the first on
unfoldable pub added : (n : ℕ) → (f : ℕ → Float) → Float
added zero f = f 0
added (suc n) f = plus (added n f) (f (suc n))

-- the distance between two points of D axes
abbrev pub distance : (D : ℕ) → (source target : ℕ → Float) → Float
distance D s t = root (added (D - 1) (λ a. apart (s a) (t a)))

-- row n is a source point, column m a target point
abbrev pub sample : (D p : ℕ) → (side : Float) → (i : ℕ) → (nodes : List Float) → (n m : ℕ) → Float
sample D p l i nodes n m = distance D (source_point D p l i nodes n) (target_point D p l nodes m)

-- THE CALL

-- the sources, the targets, the block
abbrev pub Memory : Type 0
Memory = List Float × List Float × List Float

-- how long the lent buffers are
abbrev pub lengths : (nodes : List Float) → Memory → Lengths
lengths nodes (s, t, b) = record { nodes = length nodes; sources = length s; targets = length t; block = length b }

-- every buffer has its length
unfoldable pub lengths_fit : (D p : ℕ) → Lengths → Bool
lengths_fit D p l =
    eqb l.nodes p && (eqb l.sources (D * p ^ D) && (eqb l.targets (D * p ^ D) && eqb l.block (p ^ D * p ^ D)))

unfoldable pub sample_number : (D p : ℕ) → (side : Float) → (i : ℕ) → Lengths → ℕ
sample_number D p side i l =
    unless (is_dimension D) no_dimension
    (unless (is_order p) no_order
    (unless (leb (p ^ D) most_entries) no_count
    (unless (ltb i (length (references D))) no_case
    (unless (lengths_fit D p l) wrong_length
    (unless (is_cell side) no_cell 0)))))

-- the points of both blocks, and the distances between them
abbrev pub sampled : (D p : ℕ) → (side : Float) → (i : ℕ) → (nodes : List Float) → Memory
sampled D p side i nodes = (
  points_of D p (source_point D p side i nodes),
  points_of D p (target_point D p side nodes),
  column_major (p ^ D) (p ^ D) (sample D p side i nodes),
)

unfoldable pub sample_call : (D p : ℕ) → (side : Float) → (i : ℕ) → (nodes : List Float) → Memory → ℕ × Memory
sample_call D p side i nodes t =
    let n = sample_number D p side i (lengths nodes t) in
    (n, left n (sampled D p side i nodes) t)
