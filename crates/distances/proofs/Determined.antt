-- The public contract determines the answer and the lent memory: two outcomes that it allows for an input coincide. Assumes nothing.
use mathlib.Core.Path.{◌≡◌}
use mathlib.Core.List.{List}
use Prim.Native.Nat.{ℕ}
use lib.Ieee.{Float}
use Rattle.std.specs.Prelude.{Result}
use Rattle.common.specs.Numbers.{told_number}
use Rattle.common.specs.declared.refusals.Refusal.{Refusal}
use Rattle.common.proofs.Determined.{told_coincide}
use Rattle.distances.specs.Distances.{Memory, sample_call}

module _ (dimension order : ℕ) (side : Float) (reference : ℕ) (nodes : List Float) (lent exit exit' : Memory)
    (r r' : Result Unit Refusal) where
  sample_distances_determined : (told_number r, exit) ≡ sample_call dimension order side reference nodes lent →
      (told_number r', exit') ≡ sample_call dimension order side reference nodes lent →
      ◌≡◌ {A = Result Unit Refusal × Memory} (r, exit) (r', exit')
  sample_distances_determined = told_coincide r r' exit exit' (sample_call dimension order side reference nodes lent)
