-- `distances::blocks::square_column` meets its contract. The loop keeps `Filling`: i rows have their squares. Assumes nothing.
use mathlib.Core.Path.{refl, sym}
use native.Mathlib.Nat.{zero-add}
use native.Mathlib.Omega.{arith}
use lib.Ieee.{nan}
use lib.ListN.{get_or}
use Rattle.common.proofs.Fill.{filling_none, filling_more, filling_whole}
use Rattle.distances.specs.Distances.{apart}
use Rattle.distances.proofs.blocks.square_column.Goals as goal

pub loop-i-init : goal.loop-i-init
loop-i-init c = let a = c.args in filling_none 0 a.rows (λ j. apart (get_or a.sources.now j nan) a.coordinate) _

pub loop-i-preserved : goal.loop-i-preserved
loop-i-preserved c =
    let a = c.args in
    let l = c.loop-i in
    filling_more 0 a.rows (λ j. apart (get_or a.sources.now j nan) a.coordinate) _ _ _ _ nan _
    l.invariant c.loop-i-test.true (omega (arith, c.requires.1)) (sym (zero-add _)) refl

pub shape_of-column : goal.shape_of-column
shape_of-column c = c.loop-i.invariant.long

pub returns : goal.returns
returns c =
    let a = c.args in
    filling_whole a.rows (λ j. apart (get_or a.sources.now j nan) a.coordinate) _ _ _
    c.loop-i.invariant c.loop-i-test.false c.requires.1
