-- `choices::argmax::is_mask` meets its contract. The loop keeps: whether the bytes so far are 0 or 1. Assumes nothing.
use mathlib.Core.Path.{◌≡◌, refl}
use native.Mathlib.Omega.{arith}
use lib.ListN.{length}
use Rattle.common.specs.Tests.{each}
use Rattle.common.proofs.Tests.{each_next}
use Rattle.choices.specs.Argmax.{is_mask}
use Rattle.choices.proofs.argmax.is_mask.Goals as goal

pub loop-byte-init : goal.loop-byte-init
unfolding each
loop-byte-init c = refl

pub loop-byte-preserved : goal.loop-byte-preserved
loop-byte-preserved c = rw (each_next, c.loop-byte.invariant)

pub returns : goal.returns
unfolding is_mask
returns c = let all : c.loop-byte.byte-index ≡ length c.args.mask.now = omega arith in rw all at c.loop-byte.invariant
