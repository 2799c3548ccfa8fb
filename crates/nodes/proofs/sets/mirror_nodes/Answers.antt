-- `nodes::sets::mirror_nodes` meets its contract. The loop keeps `Filling`: i nodes are mirrored. Assumes nothing.
use Prim.Native.Nat.{◌/◌}
use native.Mathlib.Nat.{zero-add}
use native.Mathlib.Omega.{arith}
use mathlib.Core.Path.{refl, sym}
use lib.Ieee.{nan}
use lib.ListN.{length}
use Rattle.common.proofs.Fill.{filling_none, filling_more}
use Rattle.nodes.specs.Sets.{mirrored}
use Rattle.nodes.proofs.Mirroring.{mirror_next, mirror_even, mirror_odd}
use Rattle.nodes.proofs.sets.mirror_nodes.Goals as goal

pub loop-i-init : goal.loop-i-init
loop-i-init c = let p = length c.args.nodes.now in filling_none 0 (p / 2) (mirrored p) _

pub loop-i-preserved : goal.loop-i-preserved
loop-i-preserved c =
    let before = c.args.nodes.now in
    let p = length before in
    let inv = c.loop-i.invariant in
    let l = c.loop-i-test.true in
    filling_more 0 (p / 2) (mirrored p) before _ _ _ nan _ inv l (omega arith) (sym (zero-add _))
    (mirror_next p before c.requires _ _ _ inv l refl)

pub returns-then-half-order : goal.returns-then-half-order
returns-then-half-order c =
    let before = c.args.nodes.now in
    mirror_odd (length before) before c.requires _ _ c.loop-i.invariant c.loop-i-test.false c.if-half-order.true

pub returns-else-half-order : goal.returns-else-half-order
returns-else-half-order c =
    let before = c.args.nodes.now in
    mirror_even (length before) before c.requires _ _ c.loop-i.invariant c.loop-i-test.false c.if-half-order.false
