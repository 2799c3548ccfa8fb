-- The size of a pivot that is accepted: it is a NaN, or at least 2 ^ -52; and what a NaN is to the comparisons. Assumes nothing.
use mathlib.Core.Path.{◌≡◌, refl, sym, ◌∙◌}
use mathlib.Core.Bool.{Bool, true, false, and-eq-true_iff}
use mathlib.Core.List.{List}
use Prim.Native.Nat.{ℕ, ◌<◌}
use lib.Count.{count_trailing_zeros}
use lib.Ieee.{Float, nan, inf, fin, lt, le, eq, is_nan, neg, of_bits, of_fields, odd}
use lib.ListN.{length}
use Rattle.common.specs.Floats.{zero₆₄, size}
use Rattle.common.proofs.Cases.{by_bool, not_both, of_not}
use Rattle.common.proofs.Orders.{at_least}
use Rattle.aca_pivots.specs.Largest.{pivot}
use Rattle.aca_pivots.specs.declared.Pivot.{Pivot}
use Rattle.aca_progress.specs.Crosses.{tiny₆₄, usable}
use Rattle.aca_progress.specs.Working.{usable_here}
use Rattle.aca_progress.proofs.Chosen.{usable_here_lem}

-- what is below something is a number
pub below_number : (x y : Float) → lt x y ≡ true → is_nan x ≡ false
unfolding lt is_nan
below_number nan y l = not_both l refl
below_number (inf s) y l = refl
below_number (fin s m e) y l = refl

neg_number : (x : Float) → is_nan (neg x) ≡ is_nan x
unfolding is_nan neg
neg_number nan = refl
neg_number (inf s) = refl
neg_number (fin s m e) = refl

pub size_number : (x : Float) → is_nan (size x) ≡ is_nan x
unfolding size
size_number x = by_bool (lt x zero₆₄) (λ l. rw l (neg_number x)) (λ l. rw l)

-- a number that is not below 2 ^ -52 is at least that
not_tiny : (x : Float) → is_nan x ≡ false → lt x tiny₆₄ ≡ false → le tiny₆₄ x ≡ true
unfolding lt le eq is_nan of_bits of_fields odd count_trailing_zeros
not_tiny nan n l = not_both refl n
not_tiny (inf true) n l = not_both refl l
not_tiny (inf false) n l = refl
not_tiny (fin s m e) n l = at_least (fin s m e) tiny₆₄ refl refl l

asked_large : (restart : Bool) (on : ℕ → Bool) (p : Pivot) → usable_here restart on p ≡ true → is_nan p.size ≡ false →
    le tiny₆₄ p.size ≡ true
asked_large false on p u n = not_tiny p.size n (of_not (lt p.size tiny₆₄) true u)
asked_large true on p u n = ((and-eq-true_iff (on p.place) (le tiny₆₄ p.size)).0 u).1

pub usable_large : (restart : Bool) (l : List Float) (on : ℕ → Bool) → 0 < length l → usable restart l on (pivot l on) ≡ true →
    is_nan (pivot l on).size ≡ false → le tiny₆₄ (pivot l on).size ≡ true
usable_large restart l on z u = asked_large restart on (pivot l on) (sym (usable_here_lem l on restart z) ∙ u)
