-- `records::size_of` meets its contract: the line has room. Assumes nothing.
use mathlib.Core.Path.{◌≡◌}
use Prim.Native.Nat.{◌≤◌}
use native.Mathlib.Omega.{arith}
use lib.ListN.{length}
use Rattle.text.proofs.Putting.{put_size}
use Rattle.records.proofs.Lines.{line_at, record_most}
use Rattle.records.proofs.size_of.Goals as goal

pub returns : goal.returns
returns c =
    let most : length (line_at c.args.bytes.now) ≤ 68 = record_most _ _ _ _ in
    let room : length c.args.spare.now ≡ 68 = omega arith in
    put_size _ (line_at c.args.bytes.now) _ c.new-line.ensures.to (rw (c.new-line.ensures.bytes, room) most) c.put_record.ensures.put
