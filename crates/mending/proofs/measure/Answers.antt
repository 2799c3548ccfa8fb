-- `mending::measure` meets its contract. The loop's invariant: what is left of the room is what is left after the lines of the records
-- before this one. Assumes nothing.
use mathlib.Core.Path.{sym, ap, ◌∙◌}
use Prim.Native.Nat.{◌-◌, ◌*◌}
use native.Mathlib.Omega.{arith}
use borrow.Author.Tests.{le-leb}
use lib.ListN.{length, drop}
use Rattle.records.proofs.Answers.{measured_all, measured_more, measured_less}
use Rattle.records.proofs.Lines.{short_size}
use Rattle.mending_lines.specs.Records.{verdict, line}
use Rattle.mending.specs.Mending.{text}
use Rattle.mending.proofs.Lines.{text_next, text_short, text_end}
use Rattle.mending.proofs.measure.Goals as goal

pub returns-then-left-size : goal.returns-then-left-size
returns-then-left-size c =
    let l = c.loop-i in
    let i = c.args.input.now in
    measured_less (text i) _ _ l.left l.invariant (line (verdict (drop (l.i * 8) i))) _ _ (text_next i l.i c.loop-i-test.true)
    c.size_of-size.ensures c.if-left-size.true

pub loop-i-preserved : goal.loop-i-preserved
loop-i-preserved c =
    let l = c.loop-i in
    let i = c.args.input.now in
    measured_more (text i) _ _ l.left l.invariant (line (verdict (drop (l.i * 8) i))) _ _ (text_next i l.i c.loop-i-test.true)
    c.size_of-size.ensures c.if-left-size.false

pub returns-then-input-ne0 : goal.returns-then-input-ne0
returns-then-input-ne0 c =
    let l = c.loop-i in
    let i = c.args.input.now in
    let eight = short_size (length i - l.i * 8) (omega arith) in
    measured_all (text i) (text (drop (l.i * 8) i)) _ l.left l.invariant 8
    (ap length (text_short i (l.i * 8) (omega arith) (omega arith)) ∙ eight)

pub returns : goal.returns
returns c =
    let l = c.loop-i in
    let i = c.args.input.now in
    sym (le-leb 0 l.left (omega arith)) ∙ measured_all (text i) (text (drop (l.i * 8) i)) _ l.left l.invariant 0
    (ap length (text_end i (l.i * 8) (omega arith) (omega arith)))
