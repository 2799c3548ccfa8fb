-- `vectors::shifted` meets its contract: each pattern speaks of bits. Assumes nothing.
use Rattle.vectors.specs.Working.{shifted}
use Rattle.vectors.proofs.Held.{of_bits, shifted_rest}
use Rattle.vectors.proofs.shifted.Goals as goal

pub returns-in-minus3 : goal.returns-in-minus3
unfolding shifted
returns-in-minus3 c = rw (of_bits c.args.e 4294967293 c.ranges.e c.in-minus3.in-minus3-own.keys1)

pub returns-in-minus2 : goal.returns-in-minus2
unfolding shifted
returns-in-minus2 c = rw (of_bits c.args.e 4294967294 c.ranges.e c.in-minus2.in-minus2-own.keys2)

pub returns-in-minus1 : goal.returns-in-minus1
unfolding shifted
returns-in-minus1 c = rw (of_bits c.args.e 4294967295 c.ranges.e c.in-minus1.in-minus1-own.keys3)

pub returns-in-0 : goal.returns-in-0
unfolding shifted
returns-in-0 c = rw (of_bits c.args.e 0 c.ranges.e c.in-0.in-0-own.keys4)

pub returns-in-1 : goal.returns-in-1
unfolding shifted
returns-in-1 c = rw (of_bits c.args.e 1 c.ranges.e c.in-1.in-1-own.keys5)

pub returns-in-2 : goal.returns-in-2
unfolding shifted
returns-in-2 c = rw (of_bits c.args.e 2 c.ranges.e c.in-2.in-2-own.keys6)

pub returns-in-3 : goal.returns-in-3
unfolding shifted
returns-in-3 c = rw (of_bits c.args.e 3 c.ranges.e c.in-3.in-3-own.keys7)

pub returns-in_default : goal.returns-in_default
returns-in_default c =
    let r = c.in_default.in_default-own.rest in
    shifted_rest c.args.e r.0.0.0.0.0.0.1 r.0.0.0.0.0.1 r.0.0.0.0.1 r.0.0.0.1 r.0.0.1
    r.0.1 r.1
