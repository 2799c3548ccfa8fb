-- `exchange_writing::putting::put_signed` meets its contract: a minus, the digits, and the newline. Assumes nothing.
use Rattle.std.proofs.Common.{[], ◌∷◌, ◌++◌}
use Rattle.text.specs.Text.{decimal}
use Rattle.text.proofs.Putting.{put_then}
use Rattle.exchange_format.specs.Lines.{newline}
use Rattle.exchange_writing.specs.Working.{minus}
use Rattle.exchange_writing.proofs.putting.put_signed.Goals as goal

pub returns-clause-put : goal.returns-clause-put
returns-clause-put c =
    let l = c.args.line.now in
    let w = c.args.whole in
    let m = minus w.is_negative in
    put_then l.to (m ++ decimal w.size) (newline ∷ []) l.bytes.now
    (put_then l.to m (decimal w.size) l.bytes.now c.put_minus.ensures.put c.put_decimal.ensures.put)
    c.put_byte.ensures.put
