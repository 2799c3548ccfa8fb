-- `records::fits` meets its contract. The loop's invariant: what is left of the room is what is left after the lines of the records
-- before this one. Assumes nothing.
use mathlib.Core.Path.{◌≡◌, sym, ap, ◌∙◌}
use mathlib.Core.List.{List, [], ◌++◌}
use Prim.Native.Nat.{ℕ, ◌+◌, ◌*◌, ◌<◌}
use borrow.Author.Rules.{rules}
use borrow.Author.Tests.{le-leb}
use native.Mathlib.Omega.{arith}
use lib.ListN.{length, get_or, drop}
use Rattle.records.specs.Text.{text}
use Rattle.records.proofs.Lines.{Parts, line_at, text_record, text_short, text_end}
use Rattle.records.proofs.Answers.{measured_all, measured_more, measured_less}
use Rattle.records.proofs.fits.Goals.{After-as_chunks, After-size_of-size}
use Rattle.records.proofs.fits.Goals as goal

parts : (c : After-as_chunks) → Parts c.args.input.now c.as_chunks.result.0.now c.as_chunks.result.1.now
parts c =
    let e = c.as_chunks.ensures in
    record { whole = e.front; many = e.front_len; over = e.back; few = e.back_len }

module _ (c : After-size_of-size) (p : Parts c.args.input.now c.as_chunks.result.0.now c.as_chunks.result.1.now) where
  abbrev here : List ℕ
  here = line_at (get_or c.as_chunks.result.0.now c.loop-record.record-index [])

  next : text (drop (4 * c.loop-record.record-index) c.args.input.now) ≡
      here ++ text (drop (4 * (c.loop-record.record-index + 1)) c.args.input.now)
  next = text_record c.args.input.now _ _ c.loop-record.record-index p c.loop-record-test.true

pub returns-then-left-size : goal.returns-then-left-size
returns-then-left-size c =
    let at = (goal.at.returns-then-left-size c).After-size_of-size in
    let p = parts (goal.at.returns-then-left-size c).After-as_chunks in
    measured_less (text c.args.input.now) _ _ c.loop-record.left c.loop-record.invariant (here at p) _ _ (next at p) c.size_of-size.ensures
    c.if-left-size.true

pub loop-record-preserved : goal.loop-record-preserved
loop-record-preserved c =
    let at = (goal.at.loop-record-preserved c).After-size_of-size in
    let p = parts (goal.at.loop-record-preserved c).After-as_chunks in
    measured_more (text c.args.input.now) _ _ c.loop-record.left c.loop-record.invariant (here at p) _ _ (next at p) c.size_of-size.ensures
    c.if-left-size.false

pub returns-then-not-is_empty : goal.returns-then-not-is_empty
returns-then-not-is_empty c =
    let some : 0 < length c.as_chunks.result.1.now = search rules in
    measured_all (text c.args.input.now) _ _ c.loop-record.left c.loop-record.invariant c.short_size.result
    (ap length (text_short c.args.input.now _ _ c.loop-record.record-index
    (parts (goal.at.returns-then-not-is_empty c).After-as_chunks) (omega arith) some) ∙ sym c.short_size.ensures)

pub returns : goal.returns
returns c =
    sym (le-leb 0 c.loop-record.left (omega arith)) ∙ measured_all (text c.args.input.now) _ _ c.loop-record.left c.loop-record.invariant 0
    (ap length (text_end c.args.input.now _ _ c.loop-record.record-index (parts (goal.at.returns c).After-as_chunks) (omega arith)
    (search rules)))
