-- Floats that are one but for a sign.
use Rattle.std.specs.Prelude.{zero, Bool, false, ℤ, Float}
use Rattle.std.specs.Float.{nan, inf, fin}
use Rattle.std.specs.Float.Ieee.{neg}

-- a float without its sign; a NaN has none
unfoldable pub magnitude : Float → Float
magnitude nan = nan
magnitude (inf s) = inf false
magnitude (fin s m e) = fin false m e

-- equal, or both of them zeros
pub data Alike : Float → Float → Type 0 where
  same : {x : Float} → Alike x x
  zeros : {s t : Bool} {e : ℤ} → Alike (fin s zero e) (fin t zero e)

-- each the other's negation, the sign of a zero apart
pub record Opposite (x y : Float) : Type 0 where
  pub negated : Alike x (neg y)
