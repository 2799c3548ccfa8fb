-- `aca_pivots::search::pick` meets its contract. The loop keeps: what is held is the best of the entries of the turns so far. Assumes
-- nothing.
use mathlib.Core.Path.{◌≡◌, refl, ◌∙◌}
use Prim.Native.Nat.{◌*◌, ◌+◌, ◌-◌}
use native.Mathlib.Omega.{arith}
use lib.ListN.{length}
use Rattle.aca_pivots.specs.Largest.{best, counts}
use Rattle.aca_pivots.proofs.Largest.{pivot_found}
use Rattle.aca_pivots.proofs.search.pick.Goals as goal
use Rattle.aca_pivots.proofs.search.pick.Goals.{then-n-eq1, else-n-eq1}

pub loop-turn-init : goal.loop-turn-init
unfolding best
loop-turn-init c = refl

-- every entry is passed, the last of an odd count by itself
pub returns : goal.returns
returns c =
    let entries = c.args.entries.now in
    let on = counts c.args.mask.now in
    let all : c.if-n-eq1.largest ≡ best (length entries) entries on =
    elim c.if-n-eq1.branch [
      | then-n-eq1 w ↦
          let n : length entries - 1 + 1 ≡ length entries = omega arith in
          w.largest-is ∙ (rw n at w.better-largest-then-n-eq1.ensures)
      | else-n-eq1 w ↦
          let n : c.loop-turn.turn * 2 ≡ length entries = omega arith in w.largest-is ∙ (rw n at c.loop-turn.invariant)
    ] in
    c.pivot_at.ensures ∙ pivot_found entries on c.if-n-eq1.largest all
