-- `records::short_size` meets its contract: the line has room. Assumes nothing.
use Rattle.text.proofs.Putting.{put_size}
use Rattle.records.specs.Text.{short}
use Rattle.records.proofs.Lines.{short_most}
use Rattle.records.proofs.short_size.Goals as goal

pub returns : goal.returns
returns c =
    let most = short_most c.args.count in
    put_size _ (short c.args.count) _ c.new-line.ensures.to (rw c.new-line.ensures.bytes most) c.put_counted.ensures.put
