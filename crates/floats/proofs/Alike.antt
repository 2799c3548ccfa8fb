-- Floats that are equal, or both zeros; and floats without their signs. Assumes nothing.
use mathlib.Core.Path.{◌≡◌, refl, ap}
use mathlib.Core.Bool.{Bool, not-not}
use lib.Ieee.{Float, nan, inf, fin, neg}
use Rattle.floats.specs.Signs.{magnitude, Alike, same, zeros}

pub alike_of : (x y : Float) → x ≡ y → Alike x y
alike_of x y e = rw e same

pub alike_sym : {x y : Float} → Alike x y → Alike y x
alike_sym same = same
alike_sym zeros = zeros

pub alike_trans : {x y z : Float} → Alike x y → Alike y z → Alike x z
alike_trans same q = q
alike_trans zeros same = zeros
alike_trans zeros zeros = zeros

pub alike_neg : {x y : Float} → Alike x y → Alike (neg x) (neg y)
unfolding neg
alike_neg same = same
alike_neg zeros = zeros

pub alike_magnitude : {x y : Float} → Alike x y → magnitude x ≡ magnitude y
unfolding magnitude
alike_magnitude same = refl
alike_magnitude zeros = refl

pub neg_magnitude : (x : Float) → magnitude (neg x) ≡ magnitude x
unfolding neg magnitude
neg_magnitude nan = refl
neg_magnitude (inf s) = refl
neg_magnitude (fin s m e) = refl

pub neg_neg : (x : Float) → neg (neg x) ≡ x
unfolding neg
neg_neg nan = refl
neg_neg (inf s) = ap inf (not-not s)
neg_neg (fin s m e) = ap (λ (t : Bool). fin t m e) (not-not s)
