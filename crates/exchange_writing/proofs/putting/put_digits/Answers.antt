-- `exchange_writing::putting::put_digits` meets its contract. The loop keeps `Storing`. Assumes nothing.
use Rattle.std.proofs.Common.{◌+◌, ◌-◌, ◌∙◌, arith, length-set}
use Rattle.exchange_writing.proofs.Lengths.{decimal_least}
use Rattle.exchange_writing.proofs.Digits.{storing_none, storing_more, storing_later, storing_inside, storing_done}
use Rattle.exchange_writing.proofs.putting.put_digits.Goals as goal

pub overflow_sub-i : goal.overflow_sub-i
overflow_sub-i c = omega (arith, c.requires.0, decimal_least c.args.n c.ranges.n.fits)

pub loop-rest-init : goal.loop-rest-init
loop-rest-init c =
    let small = c.ranges.n.fits in
    storing_none c.args.n c.args.to (c.args.to + c.args.count - 1) c.args.text.now small
    (omega (arith, c.requires.0, decimal_least c.args.n small))

pub bounds-text-i : goal.bounds-text-i
bounds-text-i c = storing_inside c.loop-rest.invariant (omega (arith, c.requires.0, c.requires.1))

pub overflow_sub-i-in-loop-rest : goal.overflow_sub-i-in-loop-rest
overflow_sub-i-in-loop-rest c = storing_later c.loop-rest.invariant c.loop-rest-test.true

pub loop-rest-preserved : goal.loop-rest-preserved
loop-rest-preserved c = storing_more c.loop-rest.invariant c.loop-rest-test.true

pub bounds-text-i-2 : goal.bounds-text-i-2
bounds-text-i-2 c = storing_inside c.loop-rest.invariant (omega (arith, c.requires.0, c.requires.1))

pub shape_of-text : goal.shape_of-text
shape_of-text c = length-set c.loop-rest.text c.loop-rest.i _ ∙ c.loop-rest.invariant.long

pub returns : goal.returns
returns c = storing_done c.loop-rest.invariant c.loop-rest-test.false
