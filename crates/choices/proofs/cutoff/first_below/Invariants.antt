-- `choices::cutoff::first_below` meets its contract. The loop keeps: the squares from place `at` on are summed, and `at` is the first place
-- found from there on. Assumes nothing.
use mathlib.Core.Path.{◌≡◌}
use lib.ListN.{drop}
use Rattle.choices.specs.Cutoff.{squares, first_below}
use Rattle.choices.proofs.cutoff.first_below.Given as goal

abbrev pub invariant-loop-at : goal.invariant-loop-at
invariant-loop-at l =
    (l.sum ≡ squares (drop l.at l.values)) × (first_below l.bound (drop l.at l.values) ≡ 0)
