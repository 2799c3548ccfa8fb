-- `curvatures::columns::fill_pairs` meets its contract. The loop keeps `Stepping`: the columns of the pairs before q are filled. Assumes
-- nothing.
use mathlib.Core.Path.{◌≡◌}
use Prim.Native.Nat.{ℕ, ◌+◌, ◌*◌, ◌<◌, ◌≤◌}
use native.Mathlib.Nat.{mul-le-mul}
use native.Mathlib.Omega.{arith}
use lib.ListN.{length}
use Rattle.common.specs.Matrices.{cell}
use Rattle.common.proofs.Limits.{power_most}
use Rattle.common.proofs.Steps.{stepping_none, stepping_fits}
use Rattle.curvatures.specs.Curvatures.{pair_count}
use Rattle.curvatures.specs.Working.{curvature_of}
use Rattle.curvatures.specs.declared.pairs.Pair.{Pair}
use Rattle.curvatures.proofs.AxisPairs.{pair_rises}
use Rattle.curvatures.proofs.Products.{pairs_fit, pair_lent, pair_more, pairs_done}
use Rattle.curvatures.proofs.columns.fill_pairs.Goals.{In-loop-q}
use Rattle.curvatures.proofs.columns.fill_pairs.Goals as goal

-- the pair's columns have their place
room : (t : In-loop-q) →
    t.loop-q.at + t.nodes.result * t.args.grid.rows ≤ length t.loop-q.curvatures
room t =
    let a = t.args in
    let l = t.loop-q in
    let n = t.nodes.result in
    let m = t.pair_count-pairs.result in
    let whole = pairs_fit a.grid.shape.dimension a.grid.shape.order a.grid.rows a.factors.now a.slopes.now a.bends.now
    a.curvatures.now m n t.pair_count-pairs.ensures t.nodes.ensures t.requires.1 in
    omega (
      arith,
      stepping_fits 0 m _ (cell a.grid.rows
          (curvature_of a.grid.shape.dimension a.grid.shape.order a.grid.rows a.factors.now a.slopes.now a.bends.now)) _ _ _ _
          l.invariant t.loop-q-test.true,
      l.invariant.long,
      whole,
    )

below : (t : In-loop-q) → t.loop-q.q < pair_count t.args.grid.shape.dimension
below t = omega (arith, t.loop-q-test.true, t.pair_count-pairs.ensures)

pub pair_count-pairs-requires : goal.pair_count-pairs-requires
pair_count-pairs-requires c = c.args.grid.shape.taken.dimension_most

pub overflow_mul-count : goal.overflow_mul-count
overflow_mul-count c =
    let a = c.args in
    let h = c.args.grid.shape.taken in
    let most = power_most a.grid.shape.order a.grid.shape.dimension h.order_most h.dimension_most in
    omega (
      arith,
      mul-le-mul {n₁ = c.nodes.result} {m₁ = a.grid.rows} {n₂ = 4096} {m₂ = 4096} (rw c.nodes.ensures most)
          a.grid.few,
    )

pub loop-q-init : goal.loop-q-init
loop-q-init c = stepping_none 0 _ _ _ _

pub overflow_add-end : goal.overflow_add-end
overflow_add-end c = omega (arith, room (goal.at.overflow_add-end c).In-loop-q, c.loop-q.invariant.long, c.well_formed)

pub pair_at-pair-requires : goal.pair_at-pair-requires
pair_at-pair-requires c = let h = c.args.grid.shape.taken in (h.dimension_least, h.dimension_most, below (goal.at.pair_at-pair-requires c).In-loop-q)

pub offset_bounds-curvatures-at : goal.offset_bounds-curvatures-at
offset_bounds-curvatures-at c = omega (arith, room (goal.at.offset_bounds-curvatures-at c).In-loop-q, c.loop-q.invariant.long, c.well_formed)

pub slice_bounds-fill_pair-end : goal.slice_bounds-fill_pair-end
slice_bounds-fill_pair-end c = omega (arith, room (goal.at.slice_bounds-fill_pair-end c).In-loop-q)

in_pair : {D : ℕ} {pair found : Pair} → pair ≡ found → (found.first ≤ found.second) × (found.second < D) →
    (pair.first ≤ pair.second) × (pair.second < D)
in_pair e h = rw e h

pub fill_pair-requires : goal.fill_pair-requires
fill_pair-requires c =
    let a = c.args in
    let n = c.nodes.ensures in
    let rises = in_pair c.pair_at-pair.ensures
    (pair_rises a.grid.shape.dimension c.loop-q.q c.args.grid.shape.taken.dimension_most (below (goal.at.fill_pair-requires c).In-loop-q)) in (
      c.requires.0,
      rises.0,
      rises.1,
      pair_lent a.grid.shape.dimension a.grid.shape.order a.grid.rows a.factors.now a.slopes.now a.bends.now
          a.curvatures.now _ _ c.pair_count-pairs.ensures n c.requires.1 c.loop-q.curvatures
          c.loop-q.at (room (goal.at.fill_pair-requires c).In-loop-q),
    )

pub loop-q-preserved : goal.loop-q-preserved
loop-q-preserved c =
    let a = c.args in
    let l = c.loop-q in
    pair_more a.grid.shape.dimension a.grid.shape.order a.grid.rows a.factors.now a.slopes.now a.bends.now a.curvatures.now
    _ _ c.pair_count-pairs.ensures c.nodes.ensures c.requires.1 l.curvatures _ l.q l.at _
    c.pair_at-pair.ensures c.loop-q-test.true l.invariant c.fill_pair.ensures

pub shape_of-curvatures : goal.shape_of-curvatures
shape_of-curvatures c = c.loop-q.invariant.long

pub returns : goal.returns
returns c =
    let l = c.loop-q in
    let a = c.args in
    pairs_done a.grid.shape.dimension a.grid.shape.order a.grid.rows a.factors.now a.slopes.now a.bends.now a.curvatures.now
    _ _ c.pair_count-pairs.ensures c.nodes.ensures c.requires.1 _ l.q l.at l.invariant c.loop-q-test.false
