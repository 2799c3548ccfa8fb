-- `exchange_entries::entries::scan_digits` meets its contract. The loop keeps `Scanning`; each way out is one law on it. Assumes nothing.
use mathlib.Core.Path.{◌≡◌, ap}
use native.Mathlib.Omega.{arith}
use lib.ListN.{length, get_or}
use Rattle.exchange_lines.proofs.Running.{Digit, passes, fails}
use Rattle.exchange_entries.specs.Working.{is_fit}
use Rattle.exchange_entries.proofs.Scans.{first_missing, first_bad, first_good, scanning_more, no_digit, too_large, number}
use Rattle.exchange_entries.proofs.Scans.{past_newline, past_end, line_end, line_newline}
use Rattle.exchange_entries.proofs.entries.scan_digits.Goals.{Else-not-is_ascii_digit, Else-not-is_ascii_digit-2}
use Rattle.exchange_entries.proofs.entries.scan_digits.Goals as goal

pub returns-then-text-from : goal.returns-then-text-from
returns-then-text-from c = first_missing c.args.text.now c.args.from c.if-text-from.true

pub returns-then-not-is_ascii_digit : goal.returns-then-not-is_ascii_digit
returns-then-not-is_ascii_digit c =
    let a = c.args in
    let d = c.is_ascii_digit in
    first_bad a.text.now a.from c.if-text-from.false
    (fails (get_or a.text.now a.from 0) d.result d.ensures.value c.if-not-is_ascii_digit.true)

-- the first byte is a digit where the scan goes on
first : (c : Else-not-is_ascii_digit) → let a = c.args in Digit (get_or a.text.now a.from 0)
first c = passes _ c.is_ascii_digit.result c.is_ascii_digit.ensures.value c.if-not-is_ascii_digit.false

pub loop-i-init : goal.loop-i-init
loop-i-init c =
    let a = c.args in
    (omega arith, first_good a.text.now a.from c.if-text-from.false (first (goal.at.loop-i-init c).Else-not-is_ascii_digit).is)

pub returns-then-b-eq10 : goal.returns-then-b-eq10
returns-then-b-eq10 c =
    let over = line_newline c.args.text.now c.loop-i.i c.loop-i-test.true c.if-b-eq10.true in
    (ap is_fit (number c.loop-i.invariant.1 over c.loop-i.invariant.0), past_newline c.loop-i.invariant.1 over c.loop-i-test.true)

pub returns-then-not-is_ascii_digit-2 : goal.returns-then-not-is_ascii_digit-2
returns-then-not-is_ascii_digit-2 c =
    let d = c.is_ascii_digit-in-loop-i in
    no_digit c.loop-i.invariant.1 c.loop-i-test.true
    (fails (get_or c.args.text.now c.loop-i.i 0) d.result d.ensures.value c.if-not-is_ascii_digit-2.true) c.if-b-eq10.false

-- and so is each byte that passes
digit : (c : Else-not-is_ascii_digit-2) → Digit (get_or c.args.text.now c.loop-i.i 0)
digit c = passes _ c.is_ascii_digit-in-loop-i.result c.is_ascii_digit-in-loop-i.ensures.value c.if-not-is_ascii_digit-2.false

pub returns-then-n-gt-MOST_SIZE : goal.returns-then-n-gt-MOST_SIZE
returns-then-n-gt-MOST_SIZE c =
    let d = digit (goal.at.returns-then-n-gt-MOST_SIZE c).Else-not-is_ascii_digit-2 in
    too_large c.loop-i.invariant.1 c.loop-i-test.true d.is c.if-n-gt-MOST_SIZE.true

pub loop-i-preserved : goal.loop-i-preserved
loop-i-preserved c =
    let l = c.loop-i in
    let d = digit (goal.at.loop-i-preserved c).Else-not-is_ascii_digit-2 in
    (omega (arith, l.invariant.0), scanning_more l.invariant.1 c.loop-i-test.true d.is c.if-n-gt-MOST_SIZE.false)

pub returns : goal.returns
returns c =
    let text = c.args.text.now in
    let l = c.loop-i in
    let over = line_end text l.i c.loop-i-test.false in
    let all : l.i ≡ length text = omega arith in
    (ap is_fit (number l.invariant.1 over l.invariant.0), rw all at (past_end l.invariant.1 over c.loop-i-test.false l.invariant.0))
