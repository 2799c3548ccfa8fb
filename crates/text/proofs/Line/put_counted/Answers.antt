-- `text::Line::put_counted` meets its contract: the word, the number, and the line's end. Assumes nothing.
use mathlib.Core.List.{[], ◌∷◌, ◌++◌}
use Rattle.text.specs.Text.{spaced}
use Rattle.text.proofs.Putting.{put_then}
use Rattle.text.proofs.Line.put_counted.Goals as goal

pub returns-clause-put : goal.returns-clause-put
returns-clause-put c =
    let l = c.args.self.now in
    let number = spaced c.args.n in
    let rest = put_then c.put.new.self.to number (10 ∷ []) c.put.new.self.bytes.now c.put_next.ensures.put c.put_byte.ensures.put in
    put_then l.to c.args.word.now (number ++ 10 ∷ []) l.bytes.now c.put.ensures.put rest
