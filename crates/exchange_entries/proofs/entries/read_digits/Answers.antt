-- `exchange_entries::entries::read_digits` meets its contract. The loop keeps `Scanning`; since the line holds a number, each byte before
-- its end is a digit, and the number stays small. Assumes nothing.
use mathlib.Core.List.{List}
use Prim.Native.Nat.{ℕ, ◌+◌, ◌*◌, ◌≤◌}
use native.Mathlib.Omega.{arith}
use lib.ListN.{length, get_or}
use mathlib.Core.Bool.{true}
use mathlib.Core.Path.{◌≡◌}
use Rattle.exchange_format.specs.Words.{most_size, numeral}
use Rattle.exchange_entries.specs.Working.{line_at, is_fit}
use Rattle.exchange_lines.proofs.Running.{Digit, a_digit}
use Rattle.exchange_entries.proofs.Scans.{digit_at, first_inside, first_known, first_good, scanning_more, digit_known}
use Rattle.exchange_entries.proofs.Scans.{still_small, number, past_newline, past_end, line_end, line_newline}
use Rattle.exchange_entries.proofs.entries.read_digits.Goals.{Else-b-eq10}
use Rattle.exchange_entries.proofs.entries.read_digits.Goals as goal

-- the first byte is a digit
first : (text : List ℕ) (from : ℕ) → is_fit (numeral most_size (line_at text from)) ≡ true → Digit (get_or text from 0)
first text from h = a_digit _ (first_known text from h)

-- a byte before the line's end is a digit, and the number with it is small
record More (text : List ℕ) (n i : ℕ) : Type 0 where
  digit : Digit (get_or text i 0)
  small : n * 10 + digit_at text i ≤ most_size

more : (c : Else-b-eq10) → More c.args.text.now c.loop-i.n
    c.loop-i.i
more c =
    let in-text = c.loop-i-test.true in
    let is = digit_known c.loop-i.invariant.1 c.requires.1 in-text c.if-b-eq10.false in
    record { digit = a_digit _ is; small = still_small c.loop-i.invariant.1 c.requires.1 in-text is }

pub bounds-text-from : goal.bounds-text-from
bounds-text-from c = first_inside c.args.text.now c.args.from c.requires.1

pub overflow_sub-n : goal.overflow_sub-n
overflow_sub-n c = (first c.args.text.now c.args.from c.requires.1).least

pub overflow_add-result : goal.overflow_add-result
overflow_add-result c = omega (arith, first_inside c.args.text.now c.args.from c.requires.1)

pub loop-i-init : goal.loop-i-init
loop-i-init c =
    let a = c.args in
    let inside = first_inside a.text.now a.from c.requires.1 in
    (omega arith, first_good a.text.now a.from inside (first a.text.now a.from c.requires.1).is)

pub returns-then-b-eq10 : goal.returns-then-b-eq10
returns-then-b-eq10 c =
    let in-text = c.loop-i-test.true in
    let over = line_newline c.args.text.now c.loop-i.i in-text c.if-b-eq10.true in
    record { number = number c.loop-i.invariant.1 over c.loop-i.invariant.0; past = past_newline c.loop-i.invariant.1 over in-text }

pub overflow_sub-n-in-loop-i : goal.overflow_sub-n-in-loop-i
overflow_sub-n-in-loop-i c = (more (goal.at.overflow_sub-n-in-loop-i c).Else-b-eq10).digit.least

pub overflow_add-n : goal.overflow_add-n
overflow_add-n c = omega (arith, (more (goal.at.overflow_add-n c).Else-b-eq10).small)

pub loop-i-preserved : goal.loop-i-preserved
loop-i-preserved c =
    let l = c.loop-i in
    let m = more (goal.at.loop-i-preserved c).Else-b-eq10 in
    (omega (arith, l.invariant.0), scanning_more l.invariant.1 c.loop-i-test.true m.digit.is m.small)

pub returns : goal.returns
returns c =
    let text = c.args.text.now in
    let l = c.loop-i in
    let over = line_end text l.i c.loop-i-test.false in
    let inside = first_inside text c.args.from c.requires.1 in
    let all : l.i ≡ length text = omega arith in
    record {
      number = number l.invariant.1 over l.invariant.0;
      past = rw all at (past_end l.invariant.1 over c.loop-i-test.false l.invariant.0);
    }
