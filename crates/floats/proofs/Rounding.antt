-- Rounding takes no side: a fraction with the other sign rounds to the negation. A fraction that is 0 rounds to a zero. Each law is
-- for every format. Assumes nothing.
use mathlib.Core.Path.{◌≡◌, refl, ap, ◌∙◌}
use mathlib.Core.Bool.{Bool, true, false, not, cond}
use Prim.Native.Nat.compare
use Prim.Native.Nat.{ℕ, zero, suc, ◌+◌, ◌-◌, ◌*◌, ◌/◌, ◌%◌, ◌^◌, compare}
use native.Mathlib.Nat.{zero-mul, zero-div, zero-mod}
use lib.Dec.{ltb}
use lib.IntN.{pos}
use lib.Pow.{pow_pos}
use lib.Ieee.{Float, inf, fin, Format, prec, emax, low, size, nearest, odd, units, round, neg}
use lib.Ieee.Fits.{round_is}
use borrow.Author.Tests.{lt-ltb}
use Rattle.floats.specs.Signs.{Alike, zeros}

-- of two cases, each negated
pub neg_cond : (b : Bool) (x y x' y' : Float) → x' ≡ neg x → y' ≡ neg y → cond b x' y' ≡ neg (cond b x y)
neg_cond true x y x' y' h k = h
neg_cond false x y x' y' h k = k

odd_neg : (d : ℕ) (s : Bool) (q k l : ℕ) → odd d (not s) q k l ≡ neg (odd d s q k l)
unfolding odd neg
odd_neg d s zero k l = refl
odd_neg d s (suc q) k l = refl

inf_neg : (s : Bool) → inf (not s) ≡ neg (inf s)
unfolding neg
inf_neg s = refl

units_neg : (f : Format) (s : Bool) (q k : ℕ) → units f (not s) q k ≡ neg (units f s q k)
unfolding units
units_neg f s q k =
    neg_cond (ltb (q * 2 ^ k) (2 ^ (low f + suc (emax f)))) _ _ _ _ (odd_neg (suc (prec f)) s q k (low f)) (inf_neg s)

pub round_neg : (f : Format) (s : Bool) (a c : ℕ) → round f (not s) a c ≡ neg (round f s a c)
unfolding round
round_neg f s a c = units_neg f s _ _

-- ZEROS

nearest_zero : (u : ℕ) → nearest 0 (compare 0 u) ≡ 0
nearest_zero zero = refl
nearest_zero (suc u) = rw (compare.zero-suc u)

units_zero : (f : Format) (s : Bool) (k : ℕ) → units f s 0 k ≡ fin s 0 (pos 0)
unfolding units odd
units_zero f s k = rw (zero-mul (2 ^ k), lt-ltb 0 (2 ^ (low f + suc (emax f))) (pow_pos (low f + suc (emax f))))

closest_zero : (n u : ℕ) → n ≡ 0 → nearest (n / u) (compare (n % u * 2) u) ≡ 0
closest_zero n u e = rw (e, zero-div u, zero-mod u) (nearest_zero u)

round_zero : (f : Format) (s : Bool) (c : ℕ) → round f s 0 c ≡ fin s 0 (pos 0)
round_zero f s c =
    let k = size (0 * 2 ^ low f / c) - prec f in
    round_is f s 0 c
    ∙ ap (λ (z : ℕ). units f s z k) (closest_zero (0 * 2 ^ low f) (c * 2 ^ k) (zero-mul (2 ^ low f)))
    ∙ units_zero f s k

pub zero_either : (f : Format) (s t : Bool) (a b c : ℕ) → a ≡ 0 → b ≡ 0 → Alike (round f s a c) (round f t b c)
zero_either f s t a b c h k = rw (h, k, round_zero f s c, round_zero f t c) zeros
