-- `exchange_lines::numbers::numeral` meets its contract. The loop keeps what the number is, with n for the digits read. Assumes nothing.
use Rattle.std.proofs.Common.{◌≡◌, ◌+◌, ◌-◌, ◌*◌, sym, ap, ◌∙◌, arith, get_or, drop, [], length}
use borrow.Author.Tests.{eqb-true, eqb-false}
use Rattle.common.specs.Refusals.{most_entries}
use Rattle.exchange_format.specs.Words.{numeral}
use Rattle.exchange_lines.proofs.Scanning.{step, done}
use Rattle.exchange_lines.proofs.Running.{passes, fails, running, numeral_none, running_start, running_digit, running_other}
use Rattle.exchange_lines.proofs.Running.{running_large, running_end}
use Rattle.exchange_lines.proofs.numbers.numeral.Goals.{Else-not-is_ascii_digit}
use Rattle.exchange_lines.proofs.numbers.numeral.Goals as goal

-- a byte that passes the test is a digit, and the number goes on with it
goes_on : (c : Else-not-is_ascii_digit) →
    let s = c.args.s.now in
    running most_entries (c.loop-b.n * 10 + (get_or s c.loop-b.b-index 0 - 48)) (drop (c.loop-b.b-index + 1) s) ≡ numeral most_entries s
goes_on c =
    let s = c.args.s.now in
    let l = c.loop-b in
    let digit = passes (get_or s l.b-index 0) c.is_ascii_digit.result c.is_ascii_digit.ensures.value c.if-not-is_ascii_digit.false in
    sym (running_digit most_entries l.n (get_or s l.b-index 0) (drop (l.b-index + 1) s) digit.is) ∙
    ap (running most_entries l.n) (sym (step s l.b-index c.loop-b-test.true)) ∙ l.invariant.1

pub returns-then-is_empty : goal.returns-then-is_empty
returns-then-is_empty c =
    let s = c.args.s.now in
    sym (numeral_none most_entries s (eqb-true (length s) 0 (sym c.is_empty.ensures ∙ c.if-is_empty.true)))

pub loop-b-init : goal.loop-b-init
loop-b-init c = (omega arith, running_start most_entries c.args.s.now (eqb-false _ 0 (sym c.is_empty.ensures ∙ c.if-is_empty.false)))

pub returns-then-not-is_ascii_digit : goal.returns-then-not-is_ascii_digit
returns-then-not-is_ascii_digit c =
    let s = c.args.s.now in
    let l = c.loop-b in
    let b = get_or s l.b-index 0 in
    let other = fails b c.is_ascii_digit.result c.is_ascii_digit.ensures.value c.if-not-is_ascii_digit.true in
    sym (ap (running most_entries l.n) (step s l.b-index c.loop-b-test.true) ∙
    running_other most_entries l.n b (drop (l.b-index + 1) s) other) ∙ l.invariant.1

pub returns-then-n-gt-MOST_ENTRIES : goal.returns-then-n-gt-MOST_ENTRIES
returns-then-n-gt-MOST_ENTRIES c =
    sym (running_large most_entries _ _ c.if-n-gt-MOST_ENTRIES.true) ∙
    goes_on (goal.at.returns-then-n-gt-MOST_ENTRIES c).Else-not-is_ascii_digit

pub loop-b-preserved : goal.loop-b-preserved
loop-b-preserved c = (c.if-n-gt-MOST_ENTRIES.false, goes_on (goal.at.loop-b-preserved c).Else-not-is_ascii_digit)

pub returns : goal.returns
returns c =
    let l = c.loop-b in
    let s = c.args.s.now in
    let all : drop l.b-index s ≡ [] = done s l.b-index c.loop-b-test.false in
    sym (ap (running most_entries l.n) all ∙ running_end most_entries l.n l.invariant.0) ∙ l.invariant.1
