-- Opposites stay opposites: under a product with any factor, a sum, a difference, and from a whole number to its float. So they have
-- one magnitude. Assumes nothing.
use mathlib.Core.Path.{◌≡◌, refl, sym, ◌∙◌}
use mathlib.Core.Bool.{true, false}
use Prim.Native.Nat.{zero, suc}
use lib.IntN.{ℤ, pos, negsuc, neg_ℤ}
use lib.Ieee.{Float, Format, neg, add, sub, mul, of_int}
use Rattle.floats.specs.Signs.{magnitude, same, Opposite}
use Rattle.floats.proofs.Alike.{alike_of, alike_trans, alike_neg, alike_magnitude, neg_magnitude, neg_neg}
use Rattle.floats.proofs.Products.{mul_neg, mul_alike}
use Rattle.floats.proofs.Rounding.{round_neg, zero_either}
use Rattle.floats.proofs.Sums.{add_neg, add_alike}

-- a float and its negation, either way round
pub neg_opposite : (x : Float) → Opposite (neg x) x
neg_opposite x = record { negated = same }

pub opposite_of_neg : (x : Float) → Opposite x (neg x)
opposite_of_neg x = record { negated = alike_of x (neg (neg x)) (sym (neg_neg x)) }

pub opposite_magnitude : {x y : Float} → Opposite x y → magnitude x ≡ magnitude y
opposite_magnitude {x} {y} h = alike_magnitude h.negated ∙ neg_magnitude y

opposite_neg : {x y : Float} → Opposite x y → Opposite (neg x) (neg y)
opposite_neg h = record { negated = alike_neg h.negated }

pub mul_opposite : (f : Format) {x x' : Float} (y : Float) → Opposite x x' → Opposite (mul f x y) (mul f x' y)
mul_opposite f {x} {x'} y h = record { negated = alike_trans (mul_alike f y h.negated) (alike_of _ _ (mul_neg f x' y)) }

pub add_opposite : (f : Format) {x x' y y' : Float} → Opposite x x' → Opposite y y' → Opposite (add f x y) (add f x' y')
add_opposite f {x} {x'} {y} {y'} h k = record { negated = alike_trans (add_alike f h.negated k.negated) (add_neg f x' y') }

pub sub_opposite : (f : Format) {x x' y y' : Float} → Opposite x x' → Opposite y y' → Opposite (sub f x y) (sub f x' y')
unfolding sub
sub_opposite f h k = add_opposite f h (opposite_neg k)

-- a whole number and its negation; 0 is its own, and its float is +0.0
pub of_int_opposite : (f : Format) (z : ℤ) → Opposite (of_int f (neg_ℤ z)) (of_int f z)
unfolding of_int
of_int_opposite f (pos zero) =
    record { negated = alike_trans (zero_either f false true 0 0 1 refl refl) (alike_of _ _ (round_neg f false 0 1)) }
of_int_opposite f (pos (suc n)) = record { negated = alike_of _ _ (round_neg f false (suc n) 1) }
of_int_opposite f (negsuc n) = record { negated = alike_of _ _ (round_neg f true (suc n) 1) }
