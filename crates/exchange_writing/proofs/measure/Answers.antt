-- `exchange_writing::measure` meets its contract. The loop keeps what the entries from place i on add to the sum, or their first fault.
-- Assumes nothing.
use Rattle.std.proofs.Common.{◌≡◌, ◌+◌, arith}
use Rattle.exchange_format.specs.Writing.{wholes}
use Rattle.exchange_writing.specs.Working.{measured}
use Rattle.exchange_writing.proofs.Lengths.{signed_most}
use Rattle.exchange_writing.proofs.Spellings.{added_none, measured_all, measured_bad, measured_on}
use Rattle.exchange_writing.proofs.measure.Goals as goal

pub loop-i-init : goal.loop-i-init
loop-i-init c = (omega arith, added_none (measured (wholes 3 c.args.block.now)))

pub returns-in_default : goal.returns-in_default
returns-in_default c =
    let l = c.loop-i in
    measured_bad (3 + l.i) c.args.block.now l.i l.sum _ l.invariant.1 c.loop-i-test.true c.in_default.ensures

pub overflow_add-sum : goal.overflow_add-sum
overflow_add-sum c =
    omega (arith, c.line_length-sum.ensures, signed_most c.in-Some.whole.is_negative c.in-Some.whole.size, c.loop-i.invariant.0, c.requires)

pub loop-i-preserved : goal.loop-i-preserved
loop-i-preserved c =
    let l = c.loop-i in
    let w = c.in-Some.whole in
    let next : 3 + (l.i + 1) ≡ 3 + l.i + 1 = omega arith in (
      omega (arith, c.line_length-sum.ensures, signed_most w.is_negative w.size, l.invariant.0),
      rw next (measured_on (3 + l.i) c.args.block.now l.i l.sum _ l.invariant.1 c.loop-i-test.true w c.line_length-sum.result
          c.in-Some.ensures c.line_length-sum.ensures),
    )

pub returns : goal.returns
returns c =
    let l = c.loop-i in
    measured_all (3 + l.i) c.args.block.now l.i l.sum _ l.invariant.1 c.loop-i-test.false
