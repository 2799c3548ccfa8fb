-- `transfer::check_transfer` meets its contract: each return by the tests that led there. Assumes nothing.
use Prim.Native.Nat.{◌+◌}
use native.Mathlib.Nat.{mul-le-mul}
use native.Mathlib.Omega.{arith}
use Rattle.transfer.proofs.Calls.{transfer_child, transfer_input, transfer_operators, transfer_first, transfer_second, transfer_none}
use Rattle.transfer.proofs.check_transfer.Goals.{then-input-nodes-via-then-input-nodes}
use Rattle.transfer.proofs.check_transfer.Goals.{then-input-nodes-via-else-input-nodes+then-operators-order}
use Rattle.transfer.proofs.check_transfer.Goals.{then-input-nodes-via-else-input-nodes+else-operators-order+then-first-nodes}
use Rattle.transfer.proofs.check_transfer.Goals.{then-input-nodes-via-else-input-nodes+else-operators-order+else-first-nodes+then-second-nodes}
use Rattle.transfer.proofs.check_transfer.Goals as goal

pub power-requires : goal.power-requires
power-requires c = (omega arith, c.args.shape.taken.dimension_most)

pub returns-then-power-child : goal.returns-then-power-child
returns-then-power-child c =
    let a = c.args in
    transfer_child a.shape.dimension a.shape.order a.child a.input a.operators a.first a.second a.shape.taken
    (rw c.power.ensures at c.if-power-child.true)

pub overflow_add-order : goal.overflow_add-order
overflow_add-order c = omega (arith, c.args.shape.taken.order_most)

pub overflow_mul-order : goal.overflow_mul-order
overflow_mul-order c =
    let p = c.args.shape.order in
    let most = c.args.shape.taken.order_most in
    omega (arith, mul-le-mul {n₁ = p + p} {m₁ = p} {n₂ = 32} {m₂ = 16} (omega (arith, most)) most)

pub returns-then-input-nodes : goal.returns-then-input-nodes
returns-then-input-nodes c =
    let a = c.args in
    let t = a.shape.taken in
    let l = rw c.power.ensures at c.if-power-child.false in
    let n = c.nodes-nodes.ensures in
    elim c.then-input-nodes.branch [
      | then-input-nodes-via-then-input-nodes w ↦
          transfer_input a.shape.dimension a.shape.order a.child a.input a.operators a.first a.second t l (rw n at w.if-input-nodes.true)
      | then-input-nodes-via-else-input-nodes+then-operators-order w ↦
          transfer_operators a.shape.dimension a.shape.order a.child a.input a.operators a.first a.second t l
          (rw n at w.if-input-nodes.false) w.if-operators-order.true
      | then-input-nodes-via-else-input-nodes+else-operators-order+then-first-nodes w ↦
          transfer_first a.shape.dimension a.shape.order a.child a.input a.operators a.first a.second t l
          (rw n at w.if-input-nodes.false) w.if-operators-order.false (rw n at w.if-first-nodes.true)
      | then-input-nodes-via-else-input-nodes+else-operators-order+else-first-nodes+then-second-nodes w ↦
          transfer_second a.shape.dimension a.shape.order a.child a.input a.operators a.first a.second t l
          (rw n at w.if-input-nodes.false) w.if-operators-order.false (rw n at w.if-first-nodes.false) (rw n at w.if-second-nodes.true)
    ]

pub returns : goal.returns
returns c =
    let a = c.args in
    let n = c.nodes-nodes.ensures in
    transfer_none a.shape.dimension a.shape.order a.child a.input a.operators a.first a.second a.shape.taken
    (rw c.power.ensures at c.if-power-child.false)
    (rw n at c.if-input-nodes.false) c.if-operators-order.false (rw n at c.if-first-nodes.false) (rw n at c.if-second-nodes.false)
