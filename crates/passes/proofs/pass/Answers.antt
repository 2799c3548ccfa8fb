-- `passes::pass` meets its contract. The loop keeps: the rows before r are filled, and the rest is as it was. Assumes nothing.
use mathlib.Core.Path.{◌≡◌, refl, sym, ◌∙◌}
use Prim.Native.Nat.{ℕ, min, ◌+◌, ◌-◌, ◌*◌, ◌<◌, ◌≤◌}
use native.Mathlib.Nat.{add-mul, zero-mul}
use native.Mathlib.Omega.{arith}
use lib.ListN.{length}
use Rattle.common.specs.Matrices.{matrix}
use Rattle.common.proofs.Fill.{part_length}
use Rattle.passes.specs.Passes.{directed}
use Rattle.passes.proofs.Strips.{few_rows, rows_fit, strip_filled, rows_all}
use Rattle.passes.proofs.pass.Goals.{In-loop-r}
use Rattle.passes.proofs.pass.Goals as goal

-- the rows of a turn, and their room
module _ (c : In-loop-r) (n : ℕ) (e : n ≡ min 4 (c.args.order - c.loop-r.r)) where
  few : (n ≤ 4) × (c.loop-r.r + n ≤ c.args.order) × (0 < n)
  few = few_rows _ _ _ c.loop-r-test.true e

  room : c.loop-r.at + n * c.args.width ≤ length c.loop-r.out
  room = rw (c.loop-r.auto.out, c.requires.3) (rows_fit _ _ _ _ _ c.loop-r.invariant.1 few.1)

pub loop-r-init : goal.loop-r-init
loop-r-init c = (omega arith, sym (zero-mul _), refl)

pub overflow_mul-end : goal.overflow_mul-end
overflow_mul-end c = omega (arith, room (goal.at.overflow_mul-end c).In-loop-r _ c.min-rows.ensures, c.well_formed)

pub overflow_add-end : goal.overflow_add-end
overflow_add-end c = omega (arith, room (goal.at.overflow_add-end c).In-loop-r _ c.min-rows.ensures, c.well_formed)

pub lay_strip-requires : goal.lay_strip-requires
lay_strip-requires c =
    let n = few (goal.at.lay_strip-requires c).In-loop-r _ c.min-rows.ensures in
    (c.requires.0, n.1, n.0, c.requires.2)

pub offset_bounds-out-at : goal.offset_bounds-out-at
offset_bounds-out-at c = omega (arith, room (goal.at.offset_bounds-out-at c).In-loop-r _ c.min-rows.ensures, c.well_formed)

pub slice_bounds-pass_strip-end : goal.slice_bounds-pass_strip-end
slice_bounds-pass_strip-end c =
    omega (arith, room (goal.at.slice_bounds-pass_strip-end c).In-loop-r _ c.min-rows.ensures)

pub pass_strip-requires : goal.pass_strip-requires
pass_strip-requires c =
    let turn = (goal.at.pass_strip-requires c).In-loop-r in (
      c.requires.0,
      (few turn _ c.min-rows.ensures).0,
      c.requires.1,
      part_length _ _ (c.min-rows.result * c.args.width) _ refl (room turn _ c.min-rows.ensures),
    )

pub overflow_add-r : goal.overflow_add-r
overflow_add-r c = omega (arith, (few (goal.at.overflow_add-r c).In-loop-r _ c.min-rows.ensures).1, c.requires.0)

pub loop-r-smaller : goal.loop-r-smaller
loop-r-smaller c = let n = few (goal.at.loop-r-smaller c).In-loop-r _ c.min-rows.ensures in omega (arith, n.1, n.2)

pub loop-r-preserved : goal.loop-r-preserved
loop-r-preserved c =
    let l = c.loop-r in
    let a = c.args in
    let n = c.min-rows.result in
    let turn = (goal.at.loop-r-preserved c).In-loop-r in (
      (few turn _ c.min-rows.ensures).1,
      omega (arith, l.invariant.1, add-mul l.r n a.width),
      strip_filled a.order a.width (matrix a.order a.values.now) (directed a.transpose (matrix a.order a.block.now)) a.out.now
          l.out _ _ l.r n l.at (l.at + n * a.width) l.invariant.1 refl (rw l.auto.out at (room turn _ c.min-rows.ensures))
          c.lay_strip.ensures c.pass_strip.ensures l.auto.out l.invariant.2,
    )

pub returns : goal.returns
returns c =
    let l = c.loop-r in
    let a = c.args in
    let all : l.r ≡ a.order = omega arith in
    l.invariant.2 ∙ rows_all a.order a.width (matrix a.order a.values.now) (directed a.transpose (matrix a.order a.block.now)) a.out.now
    l.at c.requires.3 (rw all at l.invariant.1)
