-- `text::Line::put` meets its contract: as much of the word as there is room for lies in the line. Assumes nothing.
use mathlib.Core.Path.{sym, ◌∙◌}
use native.Mathlib.Omega.{arith}
use Prim.Native.Nat.{◌-◌}
use borrow.Author.Rules.{rules}
use lib.ListN.{length}
use lib.Seq.{take-length}
use Rattle.text.proofs.Putting.{put_part}
use Rattle.text.proofs.Line.put.Goals as goal

pub returns-then-word-room-clause-put : goal.returns-then-word-room-clause-put
returns-then-word-room-clause-put c =
    let l = c.args.self.now in
    let word = c.args.word.now in
    put_part l.to c.min-from.result (length word) word l.bytes.now c.copy_from_slice.new.self (search rules) (omega arith)
    (c.copy_from_slice.ensures.after ∙ sym (take-length word))

pub returns-else-word-room-clause-put : goal.returns-else-word-room-clause-put
returns-else-word-room-clause-put c =
    let l = c.args.self.now in
    let word = c.args.word.now in
    put_part l.to c.min-from.result (length l.bytes.now - c.min-from.result) word l.bytes.now c.copy_from_slice-else-word-room.new.self
    (search rules) (omega arith) (search rules)
