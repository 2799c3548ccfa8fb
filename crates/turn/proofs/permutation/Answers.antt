-- `turn::permutation` meets its contract: refused, or walked. Assumes nothing.
use mathlib.Core.Path.{refl, sym, ◌∙◌}
use mathlib.Core.Bool.{not}
use native.Mathlib.Omega.{arith}
use lib.Dec.{eqb}
use lib.ListN.{length}
use Rattle.common.proofs.Numbers.{handed_on, number_above}
use Rattle.turn.specs.Working.{table_entry}
use Rattle.turn.proofs.Calls.{number_shape, accepted, walked_table, table_refused, table_done}
use Rattle.turn.proofs.permutation.Goals as goal

pub returns-in_err-shape : goal.returns-in_err-shape
returns-in_err-shape g c =
    let a = c.args in
    let e = c.in_err-shape.ensures.number in
    let some = number_above c.in_err-shape.field-0.0 in
    rw (handed_on _ _ c.from_residual.ensures.1)
    (table_refused a.dimension a.order a.case (table_entry (not (eqb g.row.INVERSE 0)) a.dimension a.order a.case) a.table.now _
    (e ∙ number_shape a.dimension a.order a.case (length a.table.now) (λ z. omega (arith, some, e))) (λ z. omega (arith, some)))

pub returns-in_err-check_table : goal.returns-in_err-check_table
returns-in_err-check_table g c =
    let a = c.args in
    let s = c.in_ok-shape.ensures.shape in
    rw (handed_on _ _ c.from_residual-in_err-check_table.ensures.1)
    (table_refused a.dimension a.order a.case (table_entry (not (eqb g.row.INVERSE 0)) a.dimension a.order a.case) a.table.now _
    (rw (s.0, s.1) at c.in_err-check_table.ensures) (λ z. omega (arith, number_above c.in_err-check_table.field-0.0)))

pub fill-requires : goal.fill-requires
fill-requires g c =
    let s = c.in_ok-shape.shape in
    (accepted s.dimension s.order c.args.case (length c.args.table.now) (sym c.in_ok-check_table.ensures)).whole

pub returns : goal.returns
returns g c =
    let a = c.args in
    let s = c.in_ok-shape.ensures.shape in
    let done = rw (s.0, s.1) at c.in_ok-check_table.ensures in
    let walked = rw (s.0, s.1) at c.fill.ensures in
    table_done a.dimension a.order a.case (table_entry (not (eqb g.row.INVERSE 0)) a.dimension a.order a.case) a.table.now
    0 done _ refl
    (walked ∙ walked_table (not (eqb g.row.INVERSE 0)) a.dimension a.order a.case a.table.now
    (accepted a.dimension a.order a.case (length a.table.now) (sym done)))
