-- `turn_tables::fill` meets its contract. The loop keeps `Walked`: the nodes before this row are stored, and the row's image is at hand.
-- The measure is the nodes that are left. Assumes nothing.
use Rattle.std.proofs.Common.{◌≡◌, ◌^◌, ◌<◌, length, not, eqb, refl, ◌∙◌, arith}
use Rattle.turn_tables.specs.Working.{Runs}
use Rattle.turn_tables.proofs.Walks.{walked_none, walked_runs, walked_row, walked_plane}
use Rattle.turn_tables.proofs.fill.Given.{Over}
use Rattle.turn_tables.proofs.fill.Goals.{In-loop-node}
use Rattle.turn_tables.proofs.fill.Goals as goal

pub loop-node-init : goal.loop-node-init
loop-node-init g c =
    let a = c.args in
    walked_none (not (eqb g.row.INVERSE 0)) a.shape.dimension a.shape.order a.case c.args.shape.taken c.steps_of-steps.result
    c.steps_of-steps.ensures a.table.now

-- in a turn of the loop: there are nodes left, the row has its places, and it ends within the table
module _ (g : Over) (c : In-loop-node g) where
  whole : length c.loop-node.table ≡ c.args.shape.order ^ c.args.shape.dimension
  whole = c.loop-node.invariant.long ∙ c.requires

  left : c.loop-node.node < c.args.shape.order ^ c.args.shape.dimension
  left = omega (arith, whole)

  runs : Runs c.loop-node.node c.args.shape.order c.loop-node.image
      c.steps_of-steps.result.node
      (c.args.shape.order ^ c.args.shape.dimension)
  runs =
      let l = c.loop-node in
      walked_runs (not (eqb g.row.INVERSE 0)) c.args.shape.dimension c.args.shape.order c.args.case c.args.shape.taken
      c.steps_of-steps.result c.steps_of-steps.ensures
      c.args.table.now l.table l.node l.row l.image l.plane l.invariant left

pub store_row-requires : goal.store_row-requires
store_row-requires g c = rw (whole g (goal.at.store_row-requires g c).In-loop-node) (runs g (goal.at.store_row-requires g c).In-loop-node)

pub overflow_add-node : goal.overflow_add-node
overflow_add-node g c = let r = runs g (goal.at.overflow_add-node g c).In-loop-node in omega (arith, r.few, r.nodes)

pub overflow_add-row : goal.overflow_add-row
overflow_add-row g c = omega (
  arith,
  c.loop-node.invariant.at.less,
  c.args.shape.taken.order_most,
)

pub loop-node-smaller-then-row-order : goal.loop-node-smaller-then-row-order
loop-node-smaller-then-row-order g c = omega
    (arith, left g (goal.at.loop-node-smaller-then-row-order g c).In-loop-node, c.requires)

pub loop-node-preserved-then-row-order : goal.loop-node-preserved-then-row-order
loop-node-preserved-then-row-order g c =
    let l = c.loop-node in
    let call = c.store_row in
    walked_plane (not (eqb g.row.INVERSE 0)) c.args.shape.dimension c.args.shape.order c.args.case c.args.shape.taken
    c.steps_of-steps.result c.steps_of-steps.ensures
    c.args.table.now l.table l.node l.row l.image l.plane l.invariant (left g (goal.at.loop-node-preserved-then-row-order g c).In-loop-node) _ call.auto.table
    call.ensures
    _ c.if-row-order.true refl

pub loop-node-smaller : goal.loop-node-smaller
loop-node-smaller g c = omega (arith, left g (goal.at.loop-node-smaller g c).In-loop-node, c.requires)

pub loop-node-preserved : goal.loop-node-preserved
loop-node-preserved g c =
    let l = c.loop-node in
    let call = c.store_row in
    walked_row (not (eqb g.row.INVERSE 0)) c.args.shape.dimension c.args.shape.order c.args.case c.args.shape.taken
    c.steps_of-steps.result c.steps_of-steps.ensures
    c.args.table.now l.table l.node l.row l.image l.plane l.invariant (left g (goal.at.loop-node-preserved g c).In-loop-node) _ call.auto.table
    call.ensures
    _ (let less = l.invariant.at.less in let other = c.if-row-order.false in omega arith)
    refl

pub shape_of-table : goal.shape_of-table
shape_of-table g c = c.loop-node.invariant.long

pub returns : goal.returns
returns g c =
    let l = c.loop-node in
    let all : l.node ≡ c.args.shape.order ^ c.args.shape.dimension = omega (arith, l.invariant.most, l.invariant.long, c.requires) in
    rw all at l.invariant.made
