-- `mending_lines::put_kept` meets its contract: five bytes are stored where there is room, and otherwise as many as fit. Assumes nothing.
use Prim.Native.Nat.{◌+◌}
use native.Mathlib.Omega.{arith}
use Rattle.mending_lines.specs.Records.{kept_line}
use Rattle.mending_lines.proofs.Stored.{put_whole}
use Rattle.mending_lines.proofs.put_kept.Goals as goal

pub returns-then-line-to-ge5-clause-put : goal.returns-then-line-to-ge5-clause-put
returns-then-line-to-ge5-clause-put c =
    let l = c.args.line.now in
    put_whole l.bytes.now l.to (l.to + 5) kept_line (omega arith) (omega arith) c.copy_from_slice.ensures.after
