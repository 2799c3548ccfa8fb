-- `fields::gas_at` meets its contract. The loop keeps: at each point of the run the sum is that of the first nodes. Assumes
-- nothing.
use mathlib.Core.Path.{◌∙◌}
use Prim.Native.Nat.{◌+◌, ◌<◌, ◌≤◌}
use native.Mathlib.Nat.{mul-le-mul}
use native.Mathlib.Omega.{arith}
use lib.ListN.{length}
use Rattle.fields.proofs.Points.{summing_none, next_place, inside, summing_more, summing_two, summing_done}
use Rattle.fields.proofs.gas_at.Goals.{At-loop-node}
use Rattle.fields.proofs.gas_at.Goals as goal

-- THE PLACES before the loop, and what a turn reads and writes

module _ (c : At-loop-node) where
  read : c.loop-node.node < c.args.nodes → c.loop-node.at + c.args.count ≤ length c.args.values.now
  read l = inside c.args.nodes c.args.rows c.args.from c.args.count c.args.values.now
      c.args.expansion.now c.fill_with.new.column c.loop-node.node c.loop-node.at c.loop-node.invariant.place l
      c.requires.values c.requires.points

  read_next : c.loop-node.node + 1 < c.args.nodes →
      c.loop-node.at + c.args.rows + c.args.count ≤ length c.args.values.now
  read_next l = inside c.args.nodes c.args.rows c.args.from c.args.count c.args.values.now
      c.args.expansion.now c.fill_with.new.column (c.loop-node.node + 1) (c.loop-node.at + c.args.rows)
      (next_place c.args.nodes c.args.rows c.args.from c.args.count c.args.values.now
      c.args.expansion.now c.fill_with.new.column c.loop-node.node c.loop-node.at c.loop-node.invariant.place) l
      c.requires.values c.requires.points

  few : length c.args.values.now ≤ 16777216
  few =
      rw c.requires.values (mul-le-mul {n₁ = c.args.nodes} {m₁ = c.args.rows} {n₂ = 4096} {m₂ = 4096}
      c.requires.nodes c.requires.few)

  zeros : 0 + c.args.count ≤ length c.fill_with.new.column
  zeros = omega (arith, c.fill_with.auto.column, c.requires.room)

pub fill_with-requires : goal.fill_with-requires
fill_with-requires c = let s = c.requires in omega (arith, s.room)

pub loop-node-init : goal.loop-node-init
loop-node-init c =
    summing_none _ _ _ _ _ _ _ c.args.gas.now c.requires c.fill_with.ensures

pub overflow_add-node : goal.overflow_add-node
overflow_add-node c = omega (arith, c.loop-node.invariant.most, c.requires.nodes)

pub overflow_add-next : goal.overflow_add-next
overflow_add-next c = omega (arith, read_next (goal.at.overflow_add-next c).At-loop-node c.loop-node-test.true, few (goal.at.overflow_add-next c).At-loop-node)

pub add_two-requires : goal.add_two-requires
add_two-requires c =
    let l = c.loop-node-test.true in
    (read (goal.at.add_two-requires c).At-loop-node (omega (arith, l)), read_next (goal.at.add_two-requires c).At-loop-node l, omega (arith, c.loop-node.invariant.long, zeros (goal.at.add_two-requires c).At-loop-node))

pub overflow_add-at : goal.overflow_add-at
overflow_add-at c =
    omega (arith, read_next (goal.at.overflow_add-at c).At-loop-node c.loop-node-test.true, few (goal.at.overflow_add-at c).At-loop-node, c.requires.few)

pub overflow_add-node-in-loop-node-2 : goal.overflow_add-node-in-loop-node-2
overflow_add-node-in-loop-node-2 c =
    omega (arith, c.loop-node-test.true, c.requires.nodes)

pub loop-node-preserved : goal.loop-node-preserved
loop-node-preserved c =
    let call = c.add_two in
    summing_two _ _ _ _ _ _ _ _ _ _ c.loop-node.invariant c.loop-node-test.true (zeros (goal.at.loop-node-preserved c).At-loop-node) _
    call.auto.gas call.ensures

pub add_scaled-requires : goal.add_scaled-requires
add_scaled-requires c =
    (read (goal.at.add_scaled-requires c).At-loop-node c.if-node-nodes.true, omega (arith, c.loop-node.invariant.long, zeros (goal.at.add_scaled-requires c).At-loop-node))

pub shape_of-gas-then-node-nodes : goal.shape_of-gas-then-node-nodes
shape_of-gas-then-node-nodes c =
    c.add_scaled.auto.column ∙ c.loop-node.invariant.long ∙ c.fill_with.auto.column

pub returns-then-node-nodes : goal.returns-then-node-nodes
returns-then-node-nodes c =
    let call = c.add_scaled in
    let more = summing_more _ _ _ _ _ _ _ _ _ _ c.loop-node.invariant c.if-node-nodes.true (zeros (goal.at.returns-then-node-nodes c).At-loop-node) _ call.auto.column
    call.ensures in
    summing_done _ _ _ _ _ _ _ c.args.gas.now c.requires c.fill_with.ensures _ _ _ more
    (omega (arith, c.loop-node-test.false))

pub shape_of-gas-else-node-nodes : goal.shape_of-gas-else-node-nodes
shape_of-gas-else-node-nodes c =
    c.loop-node.invariant.long ∙ c.fill_with.auto.column

pub returns-else-node-nodes : goal.returns-else-node-nodes
returns-else-node-nodes c =
    summing_done _ _ _ _ _ _ _ c.args.gas.now c.requires c.fill_with.ensures _ _ _ c.loop-node.invariant c.if-node-nodes.false
