-- `text::Line::put_refusal` meets its contract: the word, and then the number. Assumes nothing.
use Rattle.text.specs.Text.{spaced, refused_word}
use Rattle.text.proofs.Putting.{put_then}
use Rattle.text.proofs.Line.put_refusal.Goals as goal

pub returns-clause-put : goal.returns-clause-put
returns-clause-put c =
    let l = c.args.self.now in
    put_then l.to refused_word (spaced c.args.refusal) l.bytes.now c.put.ensures.put c.put_next.ensures.put
