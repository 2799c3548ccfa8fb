-- A float is finite where it lies between the infinities. Assumes nothing.
use mathlib.Core.Path.{◌≡◌, refl}
use mathlib.Core.Bool.{true, false, ◌&&◌}
use lib.Ieee.{Float, nan, inf, fin, lt, div, neg, of_bits}
use lib.Ieee.Scale.{finite}
use Rattle.common.specs.Floats.{over, zero₆₄, one₆₄}

-- 1/0
abbrev top : Float
top = over one₆₄ zero₆₄

pub between : (x : Float) → (lt (neg top) x && lt x top) ≡ finite x
unfolding lt neg div of_bits
between nan = refl
between (inf true) = refl
between (inf false) = refl
between (fin s m e) = refl
