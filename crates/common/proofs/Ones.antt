-- 1 times a float is that float: a value of the format has nothing to round, and two values of one size and sign are one. Assumes nothing.
use mathlib.Core.Path.{◌≡◌, refl, sym, ap, ◌∙◌}
use mathlib.Core.Bool.{Bool, true, false, ◌&&◌}
use Prim.Native.Nat.{ℕ, zero, suc, ◌+◌, ◌-◌, ◌*◌, ◌%◌, ◌^◌, ◌<◌, ◌≤◌}
use native.Mathlib.Nat.{mul_comm, mul_assoc, mul_right_comm, mul-one, one-mul, zero-mul, pow-suc, pow-le-pow_right, mul-lt-mul_of_pos_right}
use native.Mathlib.Nat.{lt_of_mul-lt-mul_right}
use native.Mathlib.Omega.{arith}
use lib.Count.{count_trailing_zeros}
use lib.Dec.{T, eqb, ltb, leb, ltb→lt, leb→le}
use lib.IntN.{ℤ, pos, negsuc}
use lib.Pow.{pow-add, pow_pos}
use lib.Ieee.{Float, nan, inf, fin, Format, binary64, prec, emax, low, up, down, mul, round, odd, fits, of_bits, of_fields, to_bits}
use lib.Ieee.Bits.{of_bits-to_bits}
use lib.Ieee.Exact.{HasValue, round_exact}
use lib.Ieee.Fits.{down_pos, round-fits, and_l, and_r}
use lib.Ieee.Nearest.{div_same}
use Rattle.common.specs.Floats.{times, one₆₄}
use Rattle.common.proofs.Cases.{by_lt}

-- ONE VALUE: two floats of the format with one size and sign have the same bits, so they are the same

bits_same : (f : Format) (s : Bool) (m n : ℕ) (e d : ℤ) → m * up e * down d ≡ n * up d * down e →
    to_bits f (fin s m e) ≡ to_bits f (fin s n d)
unfolding to_bits
bits_same f s m n e d h =
    let across : m * up e * 2 ^ low f * down d ≡ n * up d * 2 ^ low f * down e =
    mul_right_comm (m * up e) (2 ^ low f) (down d) ∙ ap (λ (k : ℕ). k * 2 ^ low f) h ∙ mul_right_comm (n * up d) (down e) (2 ^ low f) in
    rw (div_same (m * up e * 2 ^ low f) (down e) (n * up d * 2 ^ low f) (down d) (down_pos e) (down_pos d) across)

valued : (f : Format) (x : Float) (s : Bool) (n : ℕ) (d : ℤ) → T (fits f x) → T (fits f (fin s n d)) →
    HasValue x s (n * up d) (down d) → x ≡ fin s n d
valued f nan s n d p q v = absurd v
valued f (inf t) s n d p q v = absurd v
valued f (fin t m e) s n d p q v =
    let sign : fin t m e ≡ fin s m e = ap (λ (b : Bool). fin b m e) v.0 in
    sym (of_bits-to_bits f (fin t m e) p) ∙ ap (λ (x : Float). of_bits f (to_bits f x)) sign
    ∙ ap (of_bits f) (bits_same f s m n e d v.1) ∙ of_bits-to_bits f (fin s n d) q

-- NOTHING IS ROUNDED

-- a power of two of the format's smallest values
in_units : (l : ℕ) (e : ℤ) → down e ≤ 2 ^ l → (j : ℕ) × (up e * 2 ^ l ≡ 2 ^ j * down e)
in_units l (pos k) h = (k + l, sym (pow-add 2 k l) ∙ sym (mul-one (2 ^ (k + l))))
in_units l (negsuc k) h =
    by_lt k l
    (λ b _. let whole : l - suc k + suc k ≡ l = omega arith in
    (l - suc k, one-mul (2 ^ l) ∙ ap (λ (n : ℕ). 2 ^ n) (sym whole) ∙ pow-add 2 (l - suc k) (suc k)))
    (λ b _. absurd (let most = pow-le-pow_right {n = 2} (omega arith) {i = l} {j = k} b in omega (arith, pow-suc 2 k, pow_pos k)))

all_four : (a b c d : Bool) → T (a && b && c && d) → T b × T c × T d
all_four a b c d t = (
  and_r a b (and_l (a && b) c (and_l (a && b && c) d t)),
  and_r (a && b) c (and_l (a && b && c) d t),
  and_r
      (a && b && c) d t,
)

kept : (f : Format) (s : Bool) (n : ℕ) (d : ℤ) → T (fits f (fin s n d)) → HasValue (round f s (n * up d) (down d)) s (n * up d) (down d)
unfolding fits
kept f s zero d t =
    let none : zero * up d * 2 ^ low f ≡ 0 * down d = rw (zero-mul (up d), zero-mul (2 ^ low f), zero-mul (down d)) in
    round_exact f s (zero * up d) (down d) 0 0 (down_pos d) (pow_pos (prec f)) (pow_pos (low f + suc (emax f))) none
kept f s (suc m) d t =
    let says = all_four (eqb (suc m % 2) 1) (ltb (suc m) (2 ^ prec f)) (leb (down d) (2 ^ low f))
    (ltb (suc m * up d) (2 ^ suc (emax f) * down d)) t in
    let units = in_units (low f) d (leb→le (down d) (2 ^ low f) says.1) in
    let j = units.0 in
    let same : suc m * up d * 2 ^ low f ≡ suc m * 2 ^ j * down d =
    mul_assoc (suc m) (up d) (2 ^ low f) ∙ ap (λ (k : ℕ). suc m * k) units.1 ∙ sym (mul_assoc (suc m) (2 ^ j) (down d)) in
    let top : 2 ^ suc (emax f) * down d * 2 ^ low f ≡ 2 ^ (low f + suc (emax f)) * down d =
    mul_right_comm (2 ^ suc (emax f)) (down d) (2 ^ low f) ∙ ap (λ (k : ℕ). k * down d)
    (mul_comm (2 ^ suc (emax f)) (2 ^ low f) ∙ sym (pow-add 2 (low f) (suc (emax f)))) in
    let less : suc m * up d * 2 ^ low f < 2 ^ suc (emax f) * down d * 2 ^ low f = mul-lt-mul_of_pos_right (ltb→lt _ _ says.2)
    (pow_pos (low f)) in
    round_exact f s (suc m * up d) (down d) (suc m) j (down_pos d) (ltb→lt (suc m) (2 ^ prec f) says.0)
    (lt_of_mul-lt-mul_right (down d) (rw (← same, ← top) less)) same

pub round_kept : (f : Format) (s : Bool) (n : ℕ) (d : ℤ) → T (fits f (fin s n d)) → round f s (n * up d) (down d) ≡ fin s n d
round_kept f s n d t = valued f (round f s (n * up d) (down d)) s n d (round-fits f s (n * up d) (down d)) t (kept f s n d t)

-- ONE

one_is : one₆₄ ≡ fin false 1 (pos 0)
unfolding of_bits of_fields odd count_trailing_zeros
one_is = refl

one_first : (f : Format) (x : Float) → T (fits f x) → mul f (fin false 1 (pos 0)) x ≡ x
unfolding mul
one_first f nan h = refl
one_first f (inf true) h = refl
one_first f (inf false) h = refl
one_first f (fin true n d) h = rw (one-mul (n * up d), one-mul (down d)) (round_kept f true n d h)
one_first f (fin false n d) h = rw (one-mul (n * up d), one-mul (down d)) (round_kept f false n d h)

pub one_times : (x : Float) → T (fits binary64 x) → times one₆₄ x ≡ x
one_times x h = ap (λ (y : Float). times y x) one_is ∙ one_first binary64 x h
