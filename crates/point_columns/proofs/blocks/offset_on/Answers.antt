-- `point_columns::blocks::offset_on` meets its contract: by the axis, whose entry is read back from its bits. Assumes nothing.
use mathlib.Core.Path.{◌≡◌, ap}
use native.Mathlib.Omega.{arith}
use lib.Ieee.{of_int, binary64}
use mir.Syntax.{w32}
use mir.ValLaws.{to_z-of_z}
use Rattle.point_columns.proofs.blocks.offset_on.Goals as goal

pub returns-then-axis-eq0 : goal.returns-then-axis-eq0
returns-then-axis-eq0 c =
    rw c.if-axis-eq0.true
    (ap (of_int binary64) (to_z-of_z w32 c.args.vector.0 (record { sfits = c.struct_told-1.given.0.1 })))

pub returns-then-axis-eq1 : goal.returns-then-axis-eq1
returns-then-axis-eq1 c =
    rw c.if-axis-eq1.true
    (ap (of_int binary64) (to_z-of_z w32 c.args.vector.1
    (record { sfits = c.struct_told-then-axis-eq1-1.given.1.0.1 })))

pub returns : goal.returns
returns c =
    let last : c.args.axis ≡ 2 = omega arith in
    rw last (ap (of_int binary64) (to_z-of_z w32 c.args.vector.2 (record { sfits = c.struct_told-2-1.given.1.1.0.1 })))
