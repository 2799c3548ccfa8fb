-- `mending::size_of` meets its contract: the line has room. Assumes nothing.
use lib.ListN.{drop}
use native.Mathlib.Omega.{arith}
use Prim.Native.Nat.{◌≤◌}
use lib.ListN.{length}
use Rattle.text.proofs.Putting.{put_size}
use Rattle.mending_lines.specs.Records.{verdict, line}
use Rattle.mending_lines.proofs.Lines.{line_most}
use Rattle.mending.proofs.size_of.Goals as goal

pub returns : goal.returns
returns c =
    let here = line (verdict (drop c.args.at c.args.input.now)) in
    let most : length here ≤ 16 = omega (arith, line_most (drop c.args.at c.args.input.now)) in
    put_size _ here _ c.new-line.ensures.to (rw c.new-line.ensures.bytes most) c.put_verdict.ensures.put
