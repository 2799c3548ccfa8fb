-- `aca_pivots::search::pick` meets its contract. The loop keeps: what is held is the best of the entries of the turns so far. Assumes
-- nothing.
use mathlib.Core.Path.{◌≡◌}
use Prim.Native.Nat.{◌*◌}
use Rattle.aca_pivots.specs.Largest.{best, counts}
use Rattle.aca_pivots.proofs.search.pick.Given as goal

abbrev pub invariant-loop-turn : goal.invariant-loop-turn
invariant-loop-turn l = l.largest ≡ best (l.turn * 2) l.entries (counts l.mask)
