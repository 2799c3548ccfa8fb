-- `choices::argmax::is_mask` meets its contract. The loop keeps: whether the bytes so far are 0 or 1. Assumes nothing.
use mathlib.Core.Path.{◌≡◌}
use lib.Dec.{leb}
use lib.ListN.{get_or}
use Rattle.common.specs.Tests.{each}
use Rattle.choices.proofs.argmax.is_mask.Given as goal

abbrev pub invariant-loop-byte : goal.invariant-loop-byte
invariant-loop-byte l = l.are ≡ each l.byte-index (λ j. leb (get_or l.mask j 0) 1)
