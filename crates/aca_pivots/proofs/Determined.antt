-- The contracts of this crate determine their results. Assumes nothing.
use mathlib.Core.Path.{◌≡◌}
use mathlib.Core.Bool.{Bool}
use mathlib.Core.List.{List}
use Prim.Native.Nat.{ℕ}
use lib.Ieee.{Float}
use Rattle.common.specs.Tests.{lowest}
use Rattle.common.proofs.Determined.{coincide}
use Rattle.aca_pivots.specs.Largest.{argmax, counts, pivot}
use Rattle.aca_pivots.specs.Flags.{is_on, all_on, cleared}
use Rattle.aca_pivots.specs.declared.Pivot.{Pivot}

pick_determined : (entries : List Float) (mask : List ℕ) (r r' : Pivot) → r ≡ pivot entries (counts mask) →
    r' ≡ pivot entries (counts mask) → r ≡ r'
pick_determined entries mask r r' = coincide r r' (pivot entries (counts mask))

-- FLAGS

all_on_determined : (r r' : List ℕ) → r ≡ all_on → r' ≡ all_on → r ≡ r'
all_on_determined r r' = coincide r r' all_on

module _ (flags : List ℕ) (k : ℕ) where
  is_on_determined : (r r' : Bool) → r ≡ is_on flags k → r' ≡ is_on flags k → r ≡ r'
  is_on_determined r r' = coincide r r' (is_on flags k)

  clear_determined : (exit exit' : List ℕ) → exit ≡ cleared flags k → exit' ≡ cleared flags k → exit ≡ exit'
  clear_determined exit exit' = coincide exit exit' (cleared flags k)

lowest_on_determined : (flags : List ℕ) (most r r' : ℕ) → r ≡ lowest most (is_on flags) → r' ≡ lowest most (is_on flags) → r ≡ r'
lowest_on_determined flags most r r' = coincide r r' (lowest most (is_on flags))

place_on_determined : (entries : List Float) (flags : List ℕ) (r r' : ℕ) → r ≡ argmax entries (is_on flags) →
    r' ≡ argmax entries (is_on flags) → r ≡ r'
place_on_determined entries flags r r' = coincide r r' (argmax entries (is_on flags))

pick_on_determined : (entries : List Float) (flags : List ℕ) (r r' : Pivot) → r ≡ pivot entries (is_on flags) →
    r' ≡ pivot entries (is_on flags) → r ≡ r'
pick_on_determined entries flags r r' = coincide r r' (pivot entries (is_on flags))
