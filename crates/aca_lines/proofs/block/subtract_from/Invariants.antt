-- `aca_lines::block::subtract_from` meets its contract. The loop keeps: the entries before c are subtracted. Assumes nothing.
use Prim.Native.Nat.{ℕ}
use lib.Ieee.{nan}
use lib.ListN.{length, get_or}
use Rattle.common.specs.Floats.{minus}
use Rattle.common.specs.Matrices.{matrix}
use Rattle.common.proofs.Fill.{Filling}
use Rattle.aca_lines.proofs.block.subtract_from.Given as goal

abbrev pub invariant-loop-c : goal.invariant-loop-c
invariant-loop-c l =
    let becomes = λ (k : ℕ). minus (matrix l.apart l.samples l.first k) (get_or l.initial.line k nan) in
    Filling 0 (length l.initial.line) becomes l.initial.line l.line l.c
