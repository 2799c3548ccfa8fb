-- A sum never falls: what is not negative, added to a float that is not negative, gives no float below it. Rounding keeps the order,
-- and leaves a float of the format as it is. Assumes nothing.
use mathlib.Core.Path.{◌≡◌, refl, sym, ap, ◌∙◌, subst}
use mathlib.Core.Bool.{Bool, true, false, not, ◌&&◌, ◌||◌, true≢false}
use Prim.Native.Nat.{ℕ, zero, suc, ◌+◌, ◌-◌, ◌*◌, ◌%◌, ◌^◌, ◌<◌, ◌≤◌}
use native.Mathlib.Nat.{zero-mul, mul-one, mul_assoc, mul_comm, mul_right_comm, mul-le-mul_right, mul-lt-mul_of_pos_right, le_trans}
use native.Mathlib.Nat.{le_of_eq, lt_of_lt_of_le, mul-pos}
use native.Mathlib.Omega.{arith}
use lib.Dec.{T, ltb, leb, eqb, ltb→lt, leb→le, eqb→eq}
use lib.IntN.{ℤ, pos, negsuc}
use lib.Pow.{pow-add, pow_pos, pow-lt}
use lib.Ieee.{Float, nan, inf, fin, Format, prec, emax, low, up, down, odd, units, round, sum, add, mul, lt, le, fits}
use lib.Ieee.Exact.{HasValue, round_exact}
use lib.Ieee.Fits.{and_l, and_r, down_pos}
use lib.Ieee.Order.{round_mono, transfer}
use borrow.Author.Tests.{le-ltb}
use Rattle.common.proofs.Cases.{by_bool, by_lt}

-- NO SIGN: a float that is not negative, or a NaN

abbrev pub unsigned : Float → Bool
unsigned nan = true
unsigned (inf s) = not s
unsigned (fin s m e) = not s

odd_unsigned : (d q k l : ℕ) → unsigned (odd d false q k l) ≡ true
unfolding odd
odd_unsigned d zero k l = refl
odd_unsigned d (suc q) k l = refl

units_unsigned : (f : Format) (q k : ℕ) → unsigned (units f false q k) ≡ true
unfolding units
units_unsigned f q k =
    by_bool (ltb (q * 2 ^ k) (2 ^ (low f + suc (emax f)))) (λ e. rw e (odd_unsigned (suc (prec f)) q k (low f))) (λ e. rw e)

round_unsigned : (f : Format) (a c : ℕ) → unsigned (round f false a c) ≡ true
unfolding round
round_unsigned f a c = units_unsigned f _ _

pub square_unsigned : (f : Format) (x : Float) → unsigned (mul f x x) ≡ true
unfolding mul
square_unsigned f nan = refl
square_unsigned f (inf true) = refl
square_unsigned f (inf false) = refl
square_unsigned f (fin true m e) = round_unsigned f _ _
square_unsigned f (fin false m e) = round_unsigned f _ _

pub add_unsigned : (f : Format) (x y : Float) → unsigned x ≡ true → unsigned y ≡ true → unsigned (add f x y) ≡ true
unfolding add sum
add_unsigned f nan y p q = refl
add_unsigned f (inf s) nan p q = refl
add_unsigned f (inf true) (inf t) p q = absurd (true≢false (sym p))
add_unsigned f (inf false) (inf true) p q = absurd (true≢false (sym q))
add_unsigned f (inf false) (inf false) p q = refl
add_unsigned f (inf s) (fin t n d) p q = p
add_unsigned f (fin s m e) nan p q = refl
add_unsigned f (fin s m e) (inf t) p q = q
add_unsigned f (fin true m e) (fin t n d) p q = absurd (true≢false (sym p))
add_unsigned f (fin false m e) (fin true n d) p q = absurd (true≢false (sym q))
add_unsigned f (fin false m e) (fin false n d) p q = round_unsigned f _ _

-- ROUNDING A FLOAT OF THE FORMAT leaves its value

-- 2 ^ i is at most 2 ^ j only for an i that is at most j
exponents : (i j : ℕ) → 2 ^ i ≤ 2 ^ j → i ≤ j
exponents i j h = by_lt j i (λ l _. absurd (let p = pow-lt l in omega arith)) (λ l _. l)

-- what `fits` says of a float that is not 0
record Held (f : Format) (m : ℕ) (e : ℤ) : Type 0 where
  short : m < 2 ^ prec f
  deep : down e ≤ 2 ^ low f
  low_enough : m * up e < 2 ^ suc (emax f) * down e

held : (f : Format) (m : ℕ) (e : ℤ) → T (fits f (fin false (suc m) e)) → Held f (suc m) e
unfolding fits
held f m e h =
    let p = eqb (suc m % 2) 1 in
    let q = ltb (suc m) (2 ^ prec f) in
    let r = leb (down e) (2 ^ low f) in
    let s = ltb (suc m * up e) (2 ^ suc (emax f) * down e) in
    let b = and_l (p && q && r) s h in
    record {
      short = ltb→lt (suc m) (2 ^ prec f) (and_r p q (and_l (p && q) r b));
      deep = leb→le (down e) (2 ^ low f) (and_r (p && q) r b);
      low_enough = ltb→lt (suc m * up e) (2 ^ suc (emax f) * down e) (and_r (p && q && r) s h);
    }

itself : (f : Format) (m : ℕ) (e : ℤ) → Held f m e → HasValue (round f false (m * up e) (down e)) false (m * up e) (down e)
itself f m (pos k) h =
    let above : m * 2 ^ (k + low f) < 2 ^ (low f + suc (emax f)) =
    rw (pow-add 2 k (low f), ← mul_assoc m (2 ^ k) (2 ^ low f), pow-add 2 (low f) (suc (emax f)), mul_comm (2 ^ low f) (2 ^ suc (emax f)))
    (mul-lt-mul_of_pos_right (rw mul-one at h.low_enough) (pow_pos (low f))) in
    round_exact f false (m * 2 ^ k) 1 m (k + low f) (pow_pos 0) h.short above
    (rw (pow-add 2 k (low f), mul-one, mul_assoc))
itself f m (negsuc k) h =
    let j = low f - suc k in
    let enough : suc k ≤ low f = exponents (suc k) (low f) h.deep in
    let whole : j + suc k ≡ low f = omega arith in
    let parts : 2 ^ j * 2 ^ suc k ≡ 2 ^ low f = sym (pow-add 2 j (suc k)) ∙ ap (λ (i : ℕ). 2 ^ i) whole in
    let wide : m < 2 ^ suc (emax f) * 2 ^ suc k = rw mul-one at h.low_enough in
    let above : m * 2 ^ j < 2 ^ (low f + suc (emax f)) =
    lt_of_lt_of_le (mul-lt-mul_of_pos_right wide (pow_pos j))
    (le_of_eq
    (mul_assoc (2 ^ suc (emax f)) (2 ^ suc k) (2 ^ j)
    ∙ rw (mul_comm (2 ^ suc k) (2 ^ j), parts, mul_comm (2 ^ suc (emax f)) (2 ^ low f), ← pow-add 2 (low f) (suc (emax f))))) in
    round_exact f false (m * 1) (2 ^ suc k) m j (pow_pos (suc k)) h.short above
    (rw (mul-one, mul_assoc m (2 ^ j) (2 ^ suc k), parts))

itself_zero : (f : Format) (e : ℤ) → HasValue (round f false (0 * up e) (down e)) false (0 * up e) (down e)
itself_zero f e =
    round_exact f false (0 * up e) (down e) 0 0 (down_pos e) (pow_pos (prec f)) (pow_pos (low f + suc (emax f)))
    (rw (zero-mul (up e), zero-mul (2 ^ low f), zero-mul (down e)))

pub round_itself : (f : Format) (m : ℕ) (e : ℤ) → T (fits f (fin false m e)) →
    HasValue (round f false (m * up e) (down e)) false (m * up e) (down e)
round_itself f zero e h = itself_zero f e
round_itself f (suc m) e h = itself f (suc m) e (held f m e h)

-- THE SUM

le_finite : (a b : ℕ) → T (ltb a b || (eqb a b && true)) → a ≤ b
le_finite a b h =
    by_lt a b
    (λ l _. omega arith)
    (λ _ e. let z : T (eqb a b && true) = subst (λ (t : Bool). T (t || (eqb a b && true))) e h in
    le_of_eq (eqb→eq a b (and_l (eqb a b) true z)))

-- x, which has the value of the float m, e, is not above y; so y is not below that float
not_below : (x y : Float) (m : ℕ) (e : ℤ) → HasValue x false (m * up e) (down e) → unsigned y ≡ true → T (le x y) →
    lt y (fin false m e) ≡ false
unfolding le lt
not_below nan y m e v u h = absurd v
not_below (inf s) y m e v u h = absurd v
not_below (fin true r g) y m e v u h = absurd (true≢false v.0)
not_below (fin false r g) nan m e v u h = refl
not_below (fin false r g) (inf true) m e v u h = absurd (true≢false (sym u))
not_below (fin false r g) (inf false) m e v u h = refl
not_below (fin false r g) (fin true p d) m e v u h = absurd (true≢false (sym u))
not_below (fin false r g) (fin false p d) m e v u h =
    le-ltb (p * up d * down e) (m * up e * down d)
    (transfer (m * up e) (p * up d) (down e) (down d) (r * up g) (p * up d) (down g) (down d) (down_pos g) (down_pos d) (sym v.1) refl
    (le_finite (r * up g * down d) (p * up d * down g) h))

pub add_not_below : (f : Format) (x y : Float) → T (fits f x) → unsigned x ≡ true → unsigned y ≡ true → lt (add f x y) x ≡ false
unfolding add sum lt
add_not_below f nan y h p q = refl
add_not_below f (inf true) y h p q = absurd (true≢false (sym p))
add_not_below f (inf false) nan h p q = refl
add_not_below f (inf false) (inf true) h p q = absurd (true≢false (sym q))
add_not_below f (inf false) (inf false) h p q = refl
add_not_below f (inf false) (fin t n d) h p q = refl
add_not_below f (fin true m e) y h p q = absurd (true≢false (sym p))
add_not_below f (fin false m e) nan h p q = refl
add_not_below f (fin false m e) (inf true) h p q = absurd (true≢false (sym q))
add_not_below f (fin false m e) (inf false) h p q = refl
add_not_below f (fin false m e) (fin true n d) h p q = absurd (true≢false (sym q))
add_not_below f (fin false m e) (fin false n d) h p q =
    let a = m * up e * down d in
    let b = n * up d * down e in
    let c = down e * down d in
    let more : m * up e * c ≤ (a + b) * down e =
    le_trans (le_of_eq (sym (mul_assoc (m * up e) (down e) (down d)) ∙ mul_right_comm (m * up e) (down e) (down d)))
    (mul-le-mul_right (down e) (omega arith)) in
    not_below (round f false (m * up e) (down e)) (round f false (a + b) c) m e (round_itself f m e h) (round_unsigned f (a + b) c)
    (round_mono f (m * up e) (down e) (a + b) c (down_pos e) (mul-pos (down_pos e) (down_pos d)) more)
