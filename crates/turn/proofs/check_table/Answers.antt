-- `turn::check_table` meets its contract: each return by the tests that led there. Assumes nothing.
use Prim.Native.Nat.{◌<◌}
use native.Mathlib.Nat.{mul-le-mul}
use native.Mathlib.Omega.{arith}
use Rattle.common.proofs.Limits.{power_most}
use Rattle.common.proofs.Factorials.{factorial_most}
use Rattle.turn.specs.Tables.{cases}
use Rattle.turn.proofs.Calls.{number_case, number_length, number_none}
use Rattle.turn.proofs.check_table.Goals.{Else-power-factorial_of}
use Rattle.turn.proofs.check_table.Goals as goal

pub power-requires : goal.power-requires
power-requires c = (omega arith, c.args.shape.taken.dimension_most)

pub factorial_of-requires : goal.factorial_of-requires
factorial_of-requires c = c.args.shape.taken.dimension_most

pub overflow_mul-power : goal.overflow_mul-power
overflow_mul-power c =
    let s = c.args.shape.taken in
    let f = factorial_most _ s.dimension_most in
    let w = power_most 2 _ (omega arith) s.dimension_most in
    omega (
      arith,
      mul-le-mul {n₁ = c.power.result} {m₁ = c.factorial_of.result} {n₂ = 4096} {m₂ = 6}
          (omega (arith, c.power.ensures)) (omega (arith, c.factorial_of.ensures)),
    )

pub returns-then-power-factorial_of : goal.returns-then-power-factorial_of
returns-then-power-factorial_of c =
    let a = c.args in
    number_case a.shape.dimension a.shape.order a.case a.size a.shape.taken
    (rw (c.power.ensures, c.factorial_of.ensures) at c.if-power-factorial_of.true)

-- past the first test the case is one of the dimension's
few : (c : Else-power-factorial_of) → c.args.case < cases c.args.shape.dimension
few c = rw (c.power.ensures, c.factorial_of.ensures) at c.if-power-factorial_of.false

pub returns-then-size-nodes : goal.returns-then-size-nodes
returns-then-size-nodes c =
    let a = c.args in
    number_length a.shape.dimension a.shape.order a.case a.size a.shape.taken
    (few (goal.at.returns-then-size-nodes c).Else-power-factorial_of) (rw c.nodes.ensures at c.if-size-nodes.true)

pub returns : goal.returns
returns c =
    let a = c.args in
    number_none a.shape.dimension a.shape.order a.case a.size a.shape.taken
    (few (goal.at.returns c).Else-power-factorial_of) (rw c.nodes.ensures at c.if-size-nodes.false)
