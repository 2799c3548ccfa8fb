-- `records::put_records` meets its contract. The loop's invariant: the text of the records before this one is put. Assumes nothing.
use mathlib.Core.Path.{refl, sym, ◌∙◌}
use mathlib.Core.List.{[], append-nil}
use Prim.Native.Nat.{◌<◌}
use borrow.Author.Rules.{rules}
use native.Mathlib.Omega.{arith}
use lib.ListN.{length, get_or}
use Rattle.records.specs.Text.{short}
use Rattle.records.proofs.Lines.{Parts, line_at, text_record, text_short, text_end}
use Rattle.records.proofs.Answers.{begun, onward, reached_all}
use Rattle.records.proofs.put_records.Goals.{After-as_chunks}
use Rattle.records.proofs.put_records.Goals as goal

parts : (c : After-as_chunks) → Parts c.args.input.now c.as_chunks.result.0.now c.as_chunks.result.1.now
parts c =
    let e = c.as_chunks.ensures in
    record { whole = e.front; many = e.front_len; over = e.back; few = e.back_len }

pub loop-record-init : goal.loop-record-init
loop-record-init c = record { same = refl; reached = begun _ _ _ }

pub loop-record-preserved : goal.loop-record-preserved
loop-record-preserved c =
    let l = c.loop-record in
    let line = line_at (get_or c.as_chunks.result.0.now l.record-index []) in
    let next = text_record c.args.input.now _ _ l.record-index (parts (goal.at.loop-record-preserved c).After-as_chunks)
    c.loop-record-test.true in
    record {
      same = c.put_record.ensures.same ∙ l.invariant.same;
      reached = onward line next l.invariant.reached c.put_record.ensures.put;
    }

pub returns-then-not-is_empty-clause-put : goal.returns-then-not-is_empty-clause-put
returns-then-not-is_empty-clause-put c =
    let w = short (length c.as_chunks.result.1.now) in
    let some : 0 < length c.as_chunks.result.1.now = search rules in
    let rest = text_short c.args.input.now _ _ c.loop-record.record-index
    (parts (goal.at.returns-then-not-is_empty-clause-put c).After-as_chunks) (omega arith) some ∙ sym (append-nil w) in
    reached_all refl (onward w rest c.loop-record.invariant.reached c.put_counted.ensures.put)

pub returns-else-not-is_empty-clause-put : goal.returns-else-not-is_empty-clause-put
returns-else-not-is_empty-clause-put c =
    reached_all
    (text_end c.args.input.now _ _ c.loop-record.record-index
    (parts (goal.at.returns-else-not-is_empty-clause-put c).After-as_chunks) (omega arith) (search rules))
    c.loop-record.invariant.reached
