-- The floats' T, T' and T'' are instances of the one recurrence. Assumes nothing.
use mathlib.Core.Path.{◌≡◌, refl}
use Prim.Native.Nat.{ℕ, zero, suc}
use lib.Ieee.{Float}
use Rattle.polynomial_columns.specs.Recurrence.{T, T', T''}
use Rattle.recurrences.specs.Recurrence.{chebyshev, derived, chebyshev', chebyshev''}
use Rattle.recurrences.specs.Floats.{floats, SameRule}

module _ (x : Float) where
  values : (j : ℕ) → T j x ≡ chebyshev (floats x) j
  unfolding T chebyshev
  values zero = refl
  values (suc zero) = refl
  values (suc (suc j)) = rw (values (suc j), values j)

  slopes : (j : ℕ) → T' j x ≡ chebyshev' (floats x) j
  unfolding T' derived
  slopes zero = refl
  slopes (suc zero) = refl
  slopes (suc (suc j)) = rw (values (suc j), slopes (suc j), slopes j)

  bends : (j : ℕ) → T'' j x ≡ chebyshev'' (floats x) j
  unfolding T'' derived
  bends zero = refl
  bends (suc zero) = refl
  bends (suc (suc j)) = rw (slopes (suc j), bends (suc j), bends j)

pub same_rule : (j : ℕ) (x : Float) → SameRule j x
same_rule j x = record { values = values x j; slopes = slopes x j; bends = bends x j }
