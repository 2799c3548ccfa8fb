-- `text::Line::put_unknown` meets its contract: the word, and then the number. Assumes nothing.
use Rattle.text.specs.Text.{spaced, unknown_word}
use Rattle.text.proofs.Putting.{put_then}
use Rattle.text.proofs.Line.put_unknown.Goals as goal

pub returns-clause-put : goal.returns-clause-put
returns-clause-put c =
    let l = c.args.self.now in
    put_then l.to unknown_word (spaced c.args.kind) l.bytes.now c.put.ensures.put c.put_next.ensures.put
