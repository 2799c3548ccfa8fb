-- `bends::keep_three` meets its contract: each stretch is stored behind the one before it. Assumes nothing.
use mathlib.Core.Path.{◌≡◌}
use Prim.Native.Nat.{◌+◌, ◌-◌}
use native.Mathlib.Omega.{arith}
use Rattle.common.proofs.Fill.{part_length}
use Rattle.bends.specs.Working.{between}
use Rattle.bends.proofs.Rooms.{three_kept}
use Rattle.bends.proofs.keep_three.Goals as goal

pub returns : goal.returns
returns c =
    let a = c.args in
    let n = a.to - a.from in
    let size : a.to ≡ a.from + n = omega (arith, c.requires.0) in
    three_kept n (between a.from a.to a.first.now) (between a.from a.to a.second.now)
    (between a.from a.to a.third.now) (part_length a.from a.to n a.first.now size (omega (arith, c.requires.0, c.requires.1)))
    (part_length a.from a.to n a.second.now size (omega (arith, c.requires.0, c.requires.2)))
    (part_length a.from a.to n a.third.now size (omega (arith, c.requires.0, c.requires.3))) a.room.now _ _ _ c.requires.4
    c.copy_column.ensures c.copy_column-2.ensures
    c.copy_column-3.ensures
