-- `passes::pass_strip` meets its contract. The loop keeps: the first c columns have their sums. Assumes nothing.
use mathlib.Core.Path.{◌≡◌}
use Prim.Native.Nat.{ℕ, ◌+◌, ◌*◌, ◌<◌}
use lib.Ieee.{nan}
use lib.ListN.{get_or}
use Rattle.passes.specs.Working.{summed}
use Rattle.passes.proofs.pass_strip.Given as goal

abbrev pub invariant-loop-c : goal.invariant-loop-c
invariant-loop-c l =
    (i j : ℕ) → i < l.c → j < l.rows → get_or l.out (j * l.width + i) nan ≡ summed l.order l.values (i * l.order) l.strip j
