-- The contracts of this crate determine the answer and all lent memory: two outcomes that one allows for an input coincide. Assumes
-- nothing.
use mathlib.Core.Path.{◌≡◌, ap}
use mathlib.Core.Bool.{Bool}
use mathlib.Core.List.{List}
use Prim.Native.Nat.{ℕ}
use lib.Ieee.{Float}
use Rattle.std.specs.Prelude.{Result}
use Rattle.common.specs.Numbers.{told_number}
use Rattle.common.specs.declared.refusals.Refusal.{Refusal}
use Rattle.common.proofs.Determined.{told_coincide}
use Rattle.aca_steps.specs.Memories.{Memory}
use Rattle.aca_told.specs.Told.{Crossed, crossed, cross_told}

-- what is left, and both slices
abbrev Left : Type 0
Left = Memory × List ℕ × List Float

abbrev parts : Crossed → ℕ × Left
parts c = (c.number, (c.leaves, c.counts, c.numbers))

module _ (rows columns : ℕ) (samples : List Float) (epsilon : Float) (restart : Bool) (lent left left' : Memory)
    (counts counts' counts'' : List ℕ) (numbers numbers' numbers'' : List Float) (r r' : Result Unit Refusal) where
  aca_partial_pivoting_told_determined :
      crossed (told_number r) left counts' numbers' ≡ cross_told rows columns samples epsilon restart lent counts numbers →
      crossed (told_number r') left' counts'' numbers'' ≡ cross_told rows columns samples epsilon restart lent counts numbers →
      ◌≡◌ {A = Result Unit Refusal × Left} (r, (left, counts', numbers')) (r', (left', counts'', numbers''))
  aca_partial_pivoting_told_determined e e' =
      told_coincide {B = Left} r r' (left, counts', numbers') (left', counts'', numbers'')
      (parts (cross_told rows columns samples epsilon restart lent counts numbers)) (ap parts e) (ap parts e')
