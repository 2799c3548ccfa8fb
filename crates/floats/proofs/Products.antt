-- Products: a negated factor negates them, with no exception; a zero's sign shows only in a zero. Assumes nothing.
use mathlib.Core.Path.{◌≡◌, refl, ap}
use mathlib.Core.Bool.{Bool, true, false, not, cond}
use Prim.Native.Nat.{zero, ◌*◌}
use native.Mathlib.Nat.{zero-mul}
use lib.Dec.{eqb}
use lib.IntN.{ℤ}
use lib.Ieee.{Float, nan, inf, fin, Format, unlike, up, down, neg, mul}
use Rattle.floats.specs.Signs.{Alike, same, zeros}
use Rattle.floats.proofs.Rounding.{neg_cond, round_neg, zero_either}

unlike_not : (s t : Bool) → unlike (not s) t ≡ not (unlike s t)
unlike_not true true = refl
unlike_not true false = refl
unlike_not false true = refl
unlike_not false false = refl

-- an infinity times a number, which may be 0
inf_times : (none s t : Bool) → cond none nan (inf (unlike (not s) t)) ≡ neg (cond none nan (inf (unlike s t)))
unfolding neg
inf_times none s t = neg_cond none nan (inf (unlike s t)) nan (inf (unlike (not s) t)) refl (ap inf (unlike_not s t))

pub mul_neg : (f : Format) (x y : Float) → mul f (neg x) y ≡ neg (mul f x y)
unfolding mul neg
mul_neg f nan y = refl
mul_neg f (inf s) nan = refl
mul_neg f (inf s) (inf t) = ap inf (unlike_not s t)
mul_neg f (inf s) (fin t n d) = inf_times (eqb n 0) s t
mul_neg f (fin s m e) nan = refl
mul_neg f (fin s m e) (inf t) = inf_times (eqb m 0) s t
mul_neg f (fin s m e) (fin t n d) = rw (unlike_not s t) (round_neg f (unlike s t) _ _)

mul_zeros : (f : Format) (s t : Bool) (e : ℤ) (y : Float) → Alike (mul f (fin s zero e) y) (mul f (fin t zero e) y)
unfolding mul
mul_zeros f s t e nan = same
mul_zeros f s t e (inf u) = same
mul_zeros f s t e (fin u n d) =
    let z : zero * up e * (n * up d) ≡ 0 = rw (zero-mul (up e), zero-mul (n * up d)) in
    zero_either f (unlike s u) (unlike t u) _ _ (down e * down d) z z

pub mul_alike : (f : Format) {x x' : Float} (y : Float) → Alike x x' → Alike (mul f x y) (mul f x' y)
mul_alike f y same = same
mul_alike f y (zeros {s} {t} {e}) = mul_zeros f s t e y
