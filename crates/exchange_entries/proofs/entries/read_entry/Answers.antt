-- `exchange_entries::entries::read_entry` meets its contract: the number after a minus, or from the first byte on, as a float. Assumes
-- nothing.
use mathlib.Core.Path.{refl}
use Prim.Native.Nat.{◌+◌}
use native.Mathlib.Omega.{arith}
use Rattle.exchange_format.specs.Words.{most_size}
use Rattle.exchange_lines.proofs.Running.{numeral_most}
use Rattle.exchange_entries.specs.Working.{line_at}
use Rattle.exchange_entries.proofs.Scans.{fit_minus, read_minus, fit_plain, read_plain}
use Rattle.exchange_entries.proofs.entries.read_entry.Goals as goal

pub read_digits-number-requires : goal.read_digits-number-requires
read_digits-number-requires c =
    (omega (arith, c.requires.0), fit_minus c.args.text.now c.args.at c.requires.0 c.if-text-at-eq45.true c.requires.1)

pub float_of-value-requires : goal.float_of-value-requires
float_of-value-requires c =
    numeral_most most_size c.read_digits-number.result.size (line_at c.args.text.now (c.args.at + 1)) c.read_digits-number.ensures.number

pub returns-then-text-at-eq45 : goal.returns-then-text-at-eq45
returns-then-text-at-eq45 c =
    let d = c.read_digits-number in
    read_minus c.args.text.now c.args.at c.requires.0 c.if-text-at-eq45.true d.result _ d.ensures
    c.float_of-value.ensures refl

pub read_digits-number-requires-2 : goal.read_digits-number-requires-2
read_digits-number-requires-2 c =
    (omega (arith, c.requires.0), fit_plain c.args.text.now c.args.at c.requires.0 c.if-text-at-eq45.false c.requires.1)

pub float_of-value-requires-2 : goal.float_of-value-requires-2
float_of-value-requires-2 c =
    numeral_most most_size c.read_digits-number-2.result.size (line_at c.args.text.now c.args.at) c.read_digits-number-2.ensures.number

pub returns : goal.returns
returns c =
    let d = c.read_digits-number-2 in
    read_plain c.args.text.now c.args.at c.requires.0 c.if-text-at-eq45.false d.result _ d.ensures
    c.float_of-value-2.ensures refl
