-- `mending_records::store_four` meets its contract. Assumes nothing.
use Prim.Native.Nat.{◌+◌}
use borrow.Author.Rules.{rules}
use Rattle.mending_lines.proofs.Stored.{put_whole}
use Rattle.mending_records.proofs.store_four.Goals as goal

pub returns : goal.returns
returns c =
    let a = c.args in
    put_whole a.output.now a.at (a.at + 4) a.bytes (search rules) c.requires c.copy_from_slice.ensures.after
