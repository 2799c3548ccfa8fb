-- Sums and differences: negated terms negate them, the sign of an exact zero apart. A sum that is exactly zero is +0.0 unless both
-- terms are negative, so x + -x is +0.0 whichever is negated. Assumes nothing.
use mathlib.Core.Path.{◌≡◌, refl, sym, ◌∙◌}
use mathlib.Core.Bool.{Bool, true, false, not, ◌&&◌, beq, cond}
use Prim.Native.Nat.{ℕ, zero, suc, ◌+◌, ◌-◌, ◌*◌}
use native.Mathlib.Nat.{zero-mul, zero-add, add-zero, sub-zero}
use native.Mathlib.Omega.{arith}
use lib.Dec.{ltb}
use lib.IntN.{ℤ}
use lib.Ieee.{Float, nan, inf, fin, Format, up, down, round, neg, sum, add, sub}
use borrow.Author.Tests.{lt-ltb, le-ltb}
use Rattle.common.proofs.Cases.{by_lt}
use Rattle.floats.specs.Signs.{Alike, same, zeros}
use Rattle.floats.proofs.Alike.{alike_of, alike_sym, alike_trans}
use Rattle.floats.proofs.Rounding.{round_neg, zero_either}

-- NEGATED TERMS

-- of unlike signs
apart_neg : (f : Format) (s : Bool) (a b c : ℕ) →
    Alike (cond (ltb a b) (round f s (b - a) c) (round f (not s && ltb b a) (a - b) c))
    (neg (cond (ltb a b) (round f (not s) (b - a) c) (round f (s && ltb b a) (a - b) c)))
apart_neg f s a b c =
    by_lt a b
    (λ l e. rw e (alike_of _ _ (more s)))
    (λ g e. rw e (by_lt b a (λ l e'. rw e' (alike_of _ _ (less s))) (λ g' e'. rw e' (none s (omega arith)))))
  where
    more : (s : Bool) → round f s (b - a) c ≡ neg (round f (not s) (b - a) c)
    more true = round_neg f false (b - a) c
    more false = round_neg f true (b - a) c

    less : (s : Bool) → round f (not s && true) (a - b) c ≡ neg (round f (s && true) (a - b) c)
    less true = round_neg f true (a - b) c
    less false = round_neg f false (a - b) c

    none : (s : Bool) → a - b ≡ 0 → Alike (round f (not s && false) (a - b) c) (neg (round f (s && false) (a - b) c))
    none true z = alike_trans (zero_either f false true _ _ c z z) (alike_of _ _ (round_neg f false (a - b) c))
    none false z = alike_trans (zero_either f false true _ _ c z z) (alike_of _ _ (round_neg f false (a - b) c))

sum_neg : (f : Format) (s t : Bool) (a b c : ℕ) → Alike (sum f (not s) a (not t) b c) (neg (sum f s a t b c))
unfolding sum
sum_neg f true true a b c = alike_of _ _ (round_neg f true (a + b) c)
sum_neg f false false a b c = alike_of _ _ (round_neg f false (a + b) c)
sum_neg f true false a b c = apart_neg f true a b c
sum_neg f false true a b c = apart_neg f false a b c

inf_sum : (s t : Bool) → cond (beq (not s) (not t)) (inf (not s)) nan ≡ neg (cond (beq s t) (inf s) nan)
unfolding neg
inf_sum true true = refl
inf_sum true false = refl
inf_sum false true = refl
inf_sum false false = refl

pub add_neg : (f : Format) (x y : Float) → Alike (add f (neg x) (neg y)) (neg (add f x y))
unfolding add neg
add_neg f nan y = same
add_neg f (inf s) nan = same
add_neg f (inf s) (inf t) = alike_of _ _ (inf_sum s t)
add_neg f (inf s) (fin t n d) = same
add_neg f (fin s m e) nan = same
add_neg f (fin s m e) (inf t) = same
add_neg f (fin s m e) (fin t n d) = sum_neg f s t _ _ _

pub sub_neg : (f : Format) (x y : Float) → Alike (sub f (neg x) (neg y)) (neg (sub f x y))
unfolding sub
sub_neg f x y = add_neg f x (neg y)

-- A TERM THAT IS ZERO: its sign shows only in a sum that is zero

both_zero : (f : Format) (s u : Bool) (c : ℕ) → Alike (sum f s 0 u 0 c) (round f false 0 c)
unfolding sum
both_zero f true true c = zero_either f true false 0 0 c refl refl
both_zero f true false c = same
both_zero f false true c = same
both_zero f false false c = same

only_second : (f : Format) (s u : Bool) (b c : ℕ) → sum f s 0 u (suc b) c ≡ round f u (suc b) c
unfolding sum
only_second f true true b c = rw (zero-add (suc b))
only_second f true false b c = rw (lt-ltb 0 (suc b) (omega arith), sub-zero (suc b))
only_second f false true b c = rw (lt-ltb 0 (suc b) (omega arith), sub-zero (suc b))
only_second f false false b c = rw (zero-add (suc b))

only_first : (f : Format) (s u : Bool) (a c : ℕ) → sum f s (suc a) u 0 c ≡ round f s (suc a) c
unfolding sum
only_first f true true a c = rw (add-zero (suc a))
only_first f true false a c = rw (le-ltb (suc a) 0 (omega arith), lt-ltb 0 (suc a) (omega arith), sub-zero (suc a))
only_first f false true a c = rw (le-ltb (suc a) 0 (omega arith), sub-zero (suc a))
only_first f false false a c = rw (add-zero (suc a))

first_zero : (f : Format) (s t u : Bool) (a b c : ℕ) → a ≡ 0 → Alike (sum f s a u b c) (sum f t a u b c)
first_zero f s t u a zero c h = rw h (alike_trans (both_zero f s u c) (alike_sym (both_zero f t u c)))
first_zero f s t u a (suc b) c h = rw h (alike_of _ _ (only_second f s u b c ∙ sym (only_second f t u b c)))

second_zero : (f : Format) (s u v : Bool) (a b c : ℕ) → b ≡ 0 → Alike (sum f s a u b c) (sum f s a v b c)
second_zero f s u v zero b c h = rw h (alike_trans (both_zero f s u c) (alike_sym (both_zero f s v c)))
second_zero f s u v (suc a) b c h = rw h (alike_of _ _ (only_first f s u a c ∙ sym (only_first f s v a c)))

zero_part : (u d : ℕ) → zero * u * d ≡ 0
zero_part u d = rw (zero-mul u, zero-mul d)

add_first : (f : Format) (s t : Bool) (e : ℤ) (y : Float) → Alike (add f (fin s zero e) y) (add f (fin t zero e) y)
unfolding add
add_first f s t e nan = same
add_first f s t e (inf u) = same
add_first f s t e (fin u n d) = first_zero f s t u _ _ _ (zero_part (up e) (down d))

add_second : (f : Format) (x : Float) (u v : Bool) (d : ℤ) → Alike (add f x (fin u zero d)) (add f x (fin v zero d))
unfolding add
add_second f nan u v d = same
add_second f (inf s) u v d = same
add_second f (fin s m e) u v d = second_zero f s u v _ _ _ (zero_part (up d) (down e))

alike_first : (f : Format) {x x' : Float} (y : Float) → Alike x x' → Alike (add f x y) (add f x' y)
alike_first f y same = same
alike_first f y (zeros {s} {t} {e}) = add_first f s t e y

alike_second : (f : Format) (x : Float) {y y' : Float} → Alike y y' → Alike (add f x y) (add f x y')
alike_second f x same = same
alike_second f x (zeros {s} {t} {e}) = add_second f x s t e

pub add_alike : (f : Format) {x x' y y' : Float} → Alike x x' → Alike y y' → Alike (add f x y) (add f x' y')
add_alike f {x} {x'} {y} {y'} h k = alike_trans (alike_first f y h) (alike_second f x' k)
