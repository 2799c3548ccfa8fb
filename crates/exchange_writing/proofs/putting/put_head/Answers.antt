-- `exchange_writing::putting::put_head` meets its contract: the first line, the two sizes, and what parts and ends them. Assumes nothing.
use Rattle.std.proofs.Common.{[], ◌∷◌, ◌++◌}
use Rattle.text.specs.Text.{decimal}
use Rattle.text.proofs.Putting.{put_then}
use Rattle.exchange_format.specs.Lines.{newline, space}
use Rattle.exchange_format.specs.Words.{banner, kind}
use Rattle.exchange_writing.specs.Working.{head_text}
use Rattle.exchange_writing.proofs.putting.put_head.Goals as goal

pub returns-clause-put : goal.returns-clause-put
unfolding head_text
returns-clause-put c =
    let l = c.args.line.now in
    let text = l.bytes.now in
    let start = banner ++ kind ++ newline ∷ [] in
    let r = decimal c.args.rows in
    let m = decimal c.args.columns in
    let two = put_then l.to start r text c.put.ensures.put c.put_number.ensures.put in
    let three = put_then l.to (start ++ r) (space ∷ []) text two c.put_byte.ensures.put in
    let four = put_then l.to ((start ++ r) ++ space ∷ []) m text three c.put_number-2.ensures.put in
    put_then l.to (((start ++ r) ++ space ∷ []) ++ m) (newline ∷ []) text four c.put_byte-2.ensures.put
