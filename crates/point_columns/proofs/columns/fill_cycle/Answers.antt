-- `point_columns::columns::fill_cycle` meets its contract: by the run's length. Assumes nothing.
use borrow.Author.Rules.{rules}
use mathlib.Core.Path.{◌≡◌, ◌∙◌}
use Prim.Native.Nat.{◌*◌}
use native.Mathlib.Nat.{mul-one}
use native.Mathlib.Omega.{arith}
use Rattle.point_columns.proofs.Places.{short_cycle}
use Rattle.point_columns.proofs.columns.fill_cycle.Goals as goal

pub copy_column-requires : goal.copy_column-requires
copy_column-requires c =
    let one : c.args.order * c.args.run ≡ c.args.order = rw (c.if-run-eq1.true, mul-one) in
    (search rules, omega (arith, one, c.requires.1))

pub returns-then-run-eq1 : goal.returns-then-run-eq1
returns-then-run-eq1 c =
    let a = c.args in
    c.copy_column.ensures ∙ short_cycle a.order a.run a.at a.values.now a.points.now c.if-run-eq1.true
