-- `point_columns::blocks::fill_values` meets its contract. The loop keeps `Filling`: i values are stored. Assumes nothing.
use mathlib.Core.Path.{sym}
use native.Mathlib.Nat.{zero-add}
use native.Mathlib.Omega.{arith}
use lib.Ieee.{nan}
use lib.ListN.{length, get_or}
use Rattle.common.proofs.Fill.{filling_none, filling_more, filling_done}
use Rattle.point_columns.specs.Working.{on_axis}
use Rattle.point_columns.proofs.blocks.fill_values.Goals as goal

pub loop-i-init : goal.loop-i-init
loop-i-init c =
    let a = c.args in
    filling_none 0 (length a.nodes.now) (λ j. on_axis a.is_source a.side a.away (get_or a.nodes.now j nan)) _

pub loop-i-preserved : goal.loop-i-preserved
loop-i-preserved c =
    let a = c.args in
    filling_more 0 (length a.nodes.now) (λ j. on_axis a.is_source a.side a.away (get_or a.nodes.now j nan)) _ _ _ _ nan _
    c.loop-i.invariant c.loop-i-test.true (omega (arith, c.requires)) (sym (zero-add _))
    c.value_of.ensures

pub returns : goal.returns
returns c =
    let a = c.args in
    filling_done 0 (length a.nodes.now) (λ j. on_axis a.is_source a.side a.away (get_or a.nodes.now j nan)) _ _ _
    c.loop-i.invariant c.loop-i-test.false
