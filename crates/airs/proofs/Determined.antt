-- The contracts of this crate determine what is said of the air at a point. Assumes nothing.
use mathlib.Core.Path.{◌≡◌}
use Prim.Native.Nat.{ℕ}
use lib.Ieee.{Float}
use Rattle.common.proofs.Determined.{coincide}
use Rattle.airs.specs.Airs.{air_of, number_of}
use Rattle.airs.specs.declared.Air.{Air}

air_of_determined : (floor c n o : Float) (r r' : Air) → r ≡ air_of floor c n o → r' ≡ air_of floor c n o → r ≡ r'
air_of_determined floor c n o r r' = coincide r r' (air_of floor c n o)

number_of_determined : (air : Air) (r r' : ℕ) → r ≡ number_of air → r' ≡ number_of air → r ≡ r'
number_of_determined air r r' = coincide r r' (number_of air)
