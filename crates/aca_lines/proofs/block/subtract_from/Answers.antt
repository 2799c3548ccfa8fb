-- `aca_lines::block::subtract_from` meets its contract. The loop keeps: the entries before c are subtracted. Assumes nothing.
use mathlib.Core.Path.{refl}
use Prim.Native.Nat.{ℕ}
use lib.Ieee.{Float, nan}
use lib.ListN.{get_or}
use Rattle.common.specs.Floats.{minus}
use Rattle.common.specs.Matrices.{matrix}
use Rattle.common.proofs.Fill.{filling_none, changing_front, filling_whole}
use Rattle.aca_lines.proofs.block.subtract_from.Goals.{Start}
use Rattle.aca_lines.proofs.block.subtract_from.Goals as goal

-- what stands at place k of the block's line, and what entry k of the line becomes
module _ (c : Start) where
  abbrev there : (k : ℕ) → Float
  there = matrix c.args.apart c.args.samples.now c.args.first

  abbrev becomes : (k : ℕ) → Float
  becomes k = minus (there k) (get_or c.args.line.now k nan)

pub loop-c-init : goal.loop-c-init
loop-c-init c = filling_none 0 _ (becomes (goal.at.loop-c-init c).Start) _

pub sample-requires : goal.sample-requires
sample-requires c = c.requires c.loop-c.c c.loop-c-test.true

pub loop-c-preserved : goal.loop-c-preserved
loop-c-preserved c =
    let s = (goal.at.loop-c-preserved c).Start in
    let less = minus (there s c.loop-c.c) in
    changing_front _ (becomes s) less _ _ _ nan _ c.loop-c.invariant c.loop-c-test.true refl refl (rw c.sample.ensures)

pub shape_of-line : goal.shape_of-line
shape_of-line c = c.loop-c.invariant.long

pub returns : goal.returns
returns c = filling_whole _ (becomes (goal.at.returns c).Start) _ _ _ c.loop-c.invariant c.loop-c-test.false refl
