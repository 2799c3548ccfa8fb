-- `aca_lines::terms::multiply` meets its contract. The loop keeps: the entries before x are multiplied. Assumes nothing.
use Prim.Native.Nat.{ℕ}
use lib.Ieee.{nan}
use lib.ListN.{length, get_or}
use Rattle.common.specs.Floats.{times}
use Rattle.common.proofs.Fill.{Filling}
use Rattle.aca_lines.proofs.terms.multiply.Given as goal

abbrev pub invariant-loop-x : goal.invariant-loop-x
invariant-loop-x l =
    let becomes = λ (k : ℕ). times (get_or l.initial.line k nan) l.factor in
    Filling 0 (length l.initial.line) becomes l.initial.line l.line l.x-index
