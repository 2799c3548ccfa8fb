-- Bit patterns of binary64 with the sign clear: what the pattern k * 2 ^ 52 + n is, for an n of 53 digits (`value`), and what the
-- pattern of a number above 0 says of it (`Parts`). Assumes nothing.
use mathlib.Core.Path.{◌≡◌, refl, sym, ap, ◌∙◌, subst}
use mathlib.Core.Logic.{inl, inr}
use mathlib.Core.Bool.{Bool, true, false, not, cond}
use Prim.Native.Nat.{ℕ, zero, suc, ◌+◌, ◌-◌, ◌*◌, ◌/◌, ◌%◌, ◌^◌, ◌≤◌, ◌<◌}
use native.Mathlib.Nat.{mod-eq_of_lt, div-add-mod', eq-or-lt_of_le, zero-lt-suc}
use native.Mathlib.Omega.{arith}
use lib.Dec.{T, leb, eqb, eqb→eq, not_T, nleb→lt}
use lib.Arith.{digits_div, digits_mod, lt→nleb}
use lib.Ieee.{Float, nan, inf, fin, binary64, odd, fits, is_nan, of_fields, of_bits, to_bits, nan_bits}
use lib.Ieee.Bits.{is_false, cond_no, of_bits-to_bits, nan_bits_is}
use lib.Ieee.Exact.{HasValue, odd_sign}
use lib.Ieee.Positive.{positive}

-- A PATTERN BY ITS FIELDS

same : {s s' : Bool} {x x' t t' : ℕ} → s ≡ s' → x ≡ x' → t ≡ t' → of_fields binary64 s x t ≡ of_fields binary64 s' x' t'
same p q r = cc

of_bits_is : (b : ℕ) → of_bits binary64 b ≡ of_fields binary64 (leb (2 ^ 63) b) (b % 2 ^ 63 / 2 ^ 52) (b % 2 ^ 52)
unfolding of_bits
of_bits_is b = refl

read : (x t : ℕ) → x < 2048 → t < 2 ^ 52 → of_bits binary64 (x * 2 ^ 52 + t) ≡ of_fields binary64 false x t
read x t X L =
    let b : ℕ = x * 2 ^ 52 + t in
    let small : b < 2 ^ 63 = omega arith in
    of_bits_is b
    ∙ same (is_false (leb (2 ^ 63) b) (lt→nleb (2 ^ 63) b small))
    (ap (λ (a : ℕ). a / 2 ^ 52) (mod-eq_of_lt small) ∙ digits_div x L) (digits_mod x L)

middle : (x t : ℕ) → suc x < 2047 → of_fields binary64 false (suc x) t ≡ odd 53 false (2 ^ 52 + t) x 1074
unfolding of_fields
middle x t h =
    cond_no (eqb (suc x) 2047) (cond (eqb t 0) (inf false) nan) (odd 53 false (2 ^ 52 + t) x 1074)
    (not_T (eqb (suc x) 2047) (λ u. let e = eqb→eq (suc x) 2047 u in omega arith))

lowest : (t : ℕ) → of_fields binary64 false 0 t ≡ odd 53 false t 0 1074
unfolding of_fields
lowest t = refl

-- v is q * 2 ^ k smallest steps of the format
abbrev pub Steps : (v : Float) → (q k : ℕ) → Type 0
Steps v q k = HasValue v false (q * 2 ^ k) (2 ^ 1074)

pub value : (k n : ℕ) → k < 2046 → 2 ^ 52 ≤ n → n < 2 ^ 53 → Steps (of_bits binary64 (k * 2 ^ 52 + n)) n k
value k n h lo hi =
    let t : ℕ = n - 2 ^ 52 in
    let e : suc k * 2 ^ 52 + t ≡ k * 2 ^ 52 + n = omega arith in
    let f : 2 ^ 52 + t ≡ n = omega arith in
    let is : of_bits binary64 (k * 2 ^ 52 + n) ≡ odd 53 false n k 1074 =
    ap (of_bits binary64) (sym e) ∙ read (suc k) t (omega arith) (omega arith) ∙ middle k t (omega arith)
    ∙ ap (λ (q : ℕ). odd 53 false q k 1074) f in
    rw is (odd_sign 53 false n k 1074)

-- A FINITE VALUE IS NO NaN

no_nan : (v : Float) (s : Bool) (a c : ℕ) → HasValue v s a c → T (not (is_nan v))
unfolding is_nan
no_nan nan s a c h = absurd h
no_nan (inf t) s a c h = absurd h
no_nan (fin t m e) s a c h = tt

pub no_nan_bits : (b : ℕ) (s : Bool) (a c : ℕ) → HasValue (of_bits binary64 b) s a c → T (not (nan_bits binary64 b))
no_nan_bits b s a c h = rw (nan_bits_is binary64 b) (no_nan (of_bits binary64 b) s a c h)

pub positive_no_nan : (x : Float) → T (positive x) → T (not (is_nan x))
unfolding is_nan
positive_no_nan nan h = absurd h
positive_no_nan (inf t) h = absurd h
positive_no_nan (fin t m e) h = tt

-- WHAT IS NOT ABOVE 0: a pattern with the sign set, and one with the highest field

odd_negative : (d q k l : ℕ) → T (positive (odd d true q k l)) → ⊥
unfolding odd
odd_negative d zero k l p = p
odd_negative d (suc q) k l p = p

negative : (x t : ℕ) → T (positive (of_fields binary64 true x t)) → ⊥
unfolding of_fields
negative zero t p = odd_negative 53 t 0 1074 p
negative (suc x) t p = go (eqb (suc x) 2047) (eqb t 0) p
  where
    go : (a b : Bool) → T (positive (cond a (cond b (inf true) nan) (odd 53 true (2 ^ 52 + t) x 1074))) → ⊥
    go true true h = h
    go true false h = h
    go false b h = odd_negative 53 (2 ^ 52 + t) x 1074 h

highest : (t : ℕ) → T (positive (of_fields binary64 false 2047 t)) → ⊥
unfolding of_fields
highest t p = go (eqb t 0) p
  where
    go : (b : Bool) → T (positive (cond b (inf false) nan)) → ⊥
    go true h = h
    go false h = h

zero_digits : (t : ℕ) → T (positive (odd 53 false t 0 1074)) → 0 < t
unfolding odd
zero_digits zero p = absurd p
zero_digits (suc t) p = zero-lt-suc t

-- WHAT THE PATTERN b OF x SAYS, for an x above 0: subnormal where its field is 0, and a leading digit more where it is not
pub record Parts (x : Float) (b : ℕ) : Type 0 where
  pub field_lt : b / 2 ^ 52 < 2047
  pub none : b / 2 ^ 52 ≡ 0 → (0 < b) × (b < 2 ^ 52) × Steps x b 0
  pub some : (b / 2 ^ 52 ≡ 0 → ⊥) → Steps x (b % 2 ^ 52 + 2 ^ 52) (b / 2 ^ 52 - 1)

below_top : (b : ℕ) → T (positive (of_bits binary64 b)) → b < 2 ^ 63
below_top b p = go (leb (2 ^ 63) b) refl (rw (of_bits_is b) at p)
  where
    go : (s : Bool) → leb (2 ^ 63) b ≡ s → T (positive (of_fields binary64 (leb (2 ^ 63) b) (b % 2 ^ 63 / 2 ^ 52) (b % 2 ^ 52))) → b < 2 ^ 63
    go true e q = absurd (negative (b % 2 ^ 63 / 2 ^ 52) (b % 2 ^ 52) (rw e at q))
    go false e q = nleb→lt (2 ^ 63) b (rw e tt)

parts_of : (b : ℕ) → T (positive (of_bits binary64 b)) → Parts (of_bits binary64 b) b
parts_of b p =
    let lt = below_top b p in
    let rest_lt : b % 2 ^ 52 < 2 ^ 52 = omega arith in
    let is : of_bits binary64 b ≡ of_fields binary64 false (b / 2 ^ 52) (b % 2 ^ 52) =
    ap (of_bits binary64) (sym (div-add-mod' b (2 ^ 52))) ∙ read (b / 2 ^ 52) (b % 2 ^ 52) (omega arith) rest_lt in
    record {
      field_lt = go is (omega arith);
      none = λ z.
          let whole : b % 2 ^ 52 ≡ b = omega arith in
          let low : of_bits binary64 b ≡ odd 53 false b 0 1074 = is ∙ rw (z, whole) (lowest b) in
          (zero_digits b (rw low at p), omega arith, rw low (odd_sign 53 false b 0 1074));
      some = λ z.
          let k : ℕ = b / 2 ^ 52 - 1 in
          let n : ℕ = b % 2 ^ 52 + 2 ^ 52 in
          let e : k * 2 ^ 52 + n ≡ b = omega arith in
          subst (λ (y : ℕ). Steps (of_bits binary64 y) n k) e (value k n (omega (arith, go is (omega arith))) (omega arith) (omega arith));
    }
  where
    go : of_bits binary64 b ≡ of_fields binary64 false (b / 2 ^ 52) (b % 2 ^ 52) → b / 2 ^ 52 ≤ 2047 → b / 2 ^ 52 < 2047
    go is h = elim (eq-or-lt_of_le h) [
      | inl e ↦ absurd (highest (b % 2 ^ 52) (rw (is, e) at p))
      | inr l ↦ l
    ]

pub parts : (x : Float) → T (fits binary64 x) → T (positive x) → Parts x (to_bits binary64 x)
parts x h p =
    let back = of_bits-to_bits binary64 x h in
    subst (λ (v : Float). Parts v (to_bits binary64 x)) back (parts_of (to_bits binary64 x) (rw back p))
