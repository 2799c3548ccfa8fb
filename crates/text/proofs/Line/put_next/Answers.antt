-- `text::Line::put_next` meets its contract: a space, and then the number. Assumes nothing.
use mathlib.Core.List.{[], ◌∷◌}
use Rattle.text.specs.Text.{decimal}
use Rattle.text.proofs.Putting.{put_then}
use Rattle.text.proofs.Line.put_next.Goals as goal

pub returns-clause-put : goal.returns-clause-put
returns-clause-put c =
    let l = c.args.self.now in
    put_then l.to (32 ∷ []) (decimal c.args.n) l.bytes.now c.put_byte.ensures.put c.put_number.ensures.put
