-- Which floats are whole numbers, and which these are. Assumes nothing.
use Rattle.std.proofs.Common.{◌≡◌, ℕ, zero, suc, ◌+◌, ◌-◌, ◌*◌, ◌/◌, ◌%◌, ◌^◌, ◌<◌, ◌≤◌, min, Bool, true, false, cond, not, ◌&&◌, T, eqb}
use Rattle.std.proofs.Common.{ltb, leb, ℤ, pos, neg_ℤ, sym, refl, ap, ◌∙◌, subst, not-suc-le-zero, div-lt_iff_lt-mul, mul-pos, div-add-mod'}
use Rattle.std.proofs.Common.{zero-mul, arith, le→leb, eqb→eq, ltb→lt, leb→le, ltb-false, ltb-true, lt-ltb, ne_eqb}
use mathlib.Core.Bool.{and-false}
use mathlib.Core.Option.{Option, some, none}
use lib.Ieee.{Float, nan, inf, fin, binary64, fits, up, down, neg, lt, whole, of_int, of_bits, to_bits, to_unsigned, to_signed, in_unsigned}
use lib.Ieee.{in_float, is_nan, round}
use lib.Ieee.Back.{round_whole, unsigned_back, Float-back_unsigned}
use lib.Ieee.Exact.{HasValue}
use lib.Ieee.Bits.{of_bits-to_bits, is_true}
use lib.Ieee.Fits.{of_int-fits, and_l, and_r, up_pos, down_pos}
use Rattle.common.proofs.Cases.{by_bool, by_eq}
use Rattle.exchange_format.specs.Words.{signed}
use Rattle.exchange_format.specs.Writing.{whole_of}
use Rattle.std.specs.Prelude.{Some, None}
use Rattle.exchange_writing.specs.Working.{size_in, number_of}
use Rattle.exchange_writing.specs.declared.wholes.Whole.{Whole}

-- WITHOUT A MINUS

as_float : (n : ℕ) → n ≤ 2 ^ 53 → T (in_float binary64 (pos n))
unfolding in_float
as_float n h = le→leb n (2 ^ 53) h

float_most : (n : ℕ) → T (in_float binary64 (pos n)) → n ≤ 2 ^ 53
unfolding in_float
float_most n t = leb→le n (2 ^ 53) t

pub cast_fits : (n : ℕ) → n ≤ 9007199254740992 → T (in_float binary64 (pos n))
cast_fits n h = as_float n h

refused : (x : Float) → (T (in_unsigned binary64 64 x) → ⊥) → none ≡ size_in x
unfolding size_in
refused x h = by_bool (in_unsigned binary64 64 x) (λ e. absurd (h (subst T (sym e) tt))) (λ e. rw e)

module _ (x : Float) (n : ℕ) (f : T (fits binary64 x)) where
  pub size_same : n ≤ 9007199254740992 → to_bits binary64 (of_int binary64 (pos n)) ≡ to_bits binary64 x → some n ≡ size_in x
  unfolding size_in
  size_same l e =
      let same : of_int binary64 (pos n) ≡ x =
      sym (of_bits-to_bits binary64 (of_int binary64 (pos n)) (of_int-fits binary64 (pos n))) ∙ ap (of_bits binary64) e ∙
      of_bits-to_bits binary64 x f in
      let back = unsigned_back binary64 64 n (as_float n l) (omega arith) in
      let t : in_unsigned binary64 64 x ≡ true =
      ap (in_unsigned binary64 64) (sym same) ∙ is_true (in_unsigned binary64 64 (of_int binary64 (pos n))) back.0 in
      let v : to_unsigned 64 x ≡ n = ap (to_unsigned 64) (sym same) ∙ back.1 in
      rw (t, v)

  pub size_other : n ≡ to_unsigned 64 x → (to_bits binary64 (of_int binary64 (pos n)) ≡ to_bits binary64 x → ⊥) → none ≡ size_in x
  size_other e d =
      refused x (λ t. d (ap (λ (k : ℕ). to_bits binary64 (of_int binary64 (pos k))) e
      ∙ ap (to_bits binary64) (Float-back_unsigned binary64 64 x f t).1))

  pub size_large : n ≡ to_unsigned 64 x → 9007199254740992 < n → none ≡ size_in x
  size_large e l = refused x (λ t. let m = float_most (to_unsigned 64 x) (Float-back_unsigned binary64 64 x f t).0 in omega arith)

outside_low : (x : Float) → lt (fin true 1 (pos 0)) x ≡ false → T (in_unsigned binary64 64 x) → ⊥
unfolding lt in_unsigned
outside_low nan e t = t
outside_low (inf s) e t = t
outside_low (fin true m g) e t = and_r (whole binary64 (fin true m g)) (false && ltb (m * up g / down g) (2 ^ 64)) t
outside_low (fin false m g) e t = omega (arith, ltb-false 0 (1 * 1 * down g + m * up g * 1) e, down_pos g)

outside_high : (x : Float) → lt x (fin false 1 (pos 64)) ≡ false → T (in_unsigned binary64 64 x) → ⊥
unfolding lt in_unsigned
outside_high nan e t = t
outside_high (inf s) e t = t
outside_high (fin true m g) e t = and_r (whole binary64 (fin true m g)) (false && ltb (m * up g / down g) (2 ^ 64)) t
outside_high (fin false m g) e t =
    let a = ltb→lt (m * up g / down g) (2 ^ 64) (and_r (whole binary64 (fin false m g)) (true && ltb (m * up g / down g) (2 ^ 64)) t) in
    let b : m * up g < 2 ^ 64 * down g = (div-lt_iff_lt-mul (down_pos g)).0 a in
    let c = ltb-false (m * up g * 1) (1 * 2 ^ 64 * down g) e in
    omega arith

pub size_below : (x : Float) → lt (fin true 1 (pos 0)) x ≡ false → none ≡ size_in x
size_below x e = refused x (outside_low x e)

pub size_above : (x : Float) → lt x (fin false 1 (pos 64)) ≡ false → none ≡ size_in x
size_above x e = refused x (outside_high x e)

pub above_nan : (x : Float) → lt (fin true 1 (pos 0)) x ≡ true → T (not (is_nan x))
unfolding lt is_nan
above_nan nan e = absurd (let z : false ≡ true = e in let y : ◌≡◌ {A = ℕ} 0 1 = cc in omega arith)
above_nan (inf s) e = tt
above_nan (fin s m g) e = tt

valued : (x : Float) (s : Bool) (a c : ℕ) → HasValue x s a c → T (not (is_nan x))
unfolding is_nan
valued nan s a c h = absurd h
valued (inf t) s a c h = tt
valued (fin t m g) s a c h = tt

pub whole_nan : (n : ℕ) → n ≤ 9007199254740992 → T (not (is_nan (of_int binary64 (pos n))))
unfolding of_int
whole_nan n h = valued (round binary64 false n 1) false n 1 (round_whole binary64 false n h)

-- WITH A MINUS

capped : (c : ℕ) → c ≤ 2 ^ 53 → (min c (2 ^ 63) ≡ c) × (min c (2 ^ 63 - 1) ≡ c) × (min c (2 ^ 64 - 1) ≡ c)
capped c h = (omega arith, omega arith, omega arith)

-- the tests of a whole number, with the size c and what is cut off, r
negative : (c : ℕ) (b : Bool) (z : Bool) → z ≡ false → (b ≡ true → c ≤ 2 ^ 53) →
    ◌≡◌ {A = Option ℤ} (cond (b && not (true && z)) (some (neg_ℤ (pos (min c (2 ^ 63))))) none)
    (signed true (cond ((b && not (false && z)) && (true && ltb c (2 ^ 64))) (some (min c (2 ^ 64 - 1))) none))
negative c false z e h = refl
negative c true z e h =
    let l = capped c (h refl) in
    rw (e, lt-ltb c (2 ^ 64) (omega (arith, h refl)), l.0, l.2)

positive : (c : ℕ) (b : Bool) (z : Bool) → (b ≡ true → c ≤ 2 ^ 53) →
    ◌≡◌ {A = Option ℤ} (cond (b && not (false && z)) (some (pos (min c (2 ^ 63 - 1)))) none)
    (signed false (cond ((b && not (false && z)) && (true && ltb c (2 ^ 64))) (some (min c (2 ^ 64 - 1))) none))
positive c false z h = refl
positive c true z h =
    let l = capped c (h refl) in
    rw (lt-ltb c (2 ^ 64) (omega (arith, h refl)), l.1, l.2)

most_of : (r c : ℕ) → (eqb r 0 && leb c (2 ^ 53)) ≡ true → c ≤ 2 ^ 53
most_of r c e = leb→le c (2 ^ 53) (and_r (eqb r 0) (leb c (2 ^ 53)) (subst T (sym e) tt))

pub whole_minus : (x : Float) → lt x (fin false 0 (pos 0)) ≡ true → whole_of x ≡ signed true (size_in (neg x))
unfolding lt whole_of size_in neg whole in_unsigned to_unsigned to_signed
whole_minus nan e = refl
whole_minus (inf s) e = refl
whole_minus (fin false m g) e = absurd (omega (arith, ltb-true (m * up g * 1) (0 * 1 * down g) e))
whole_minus (fin true zero g) e = absurd (omega (arith, ltb-true 0 (0 * up g * 1 + 0 * 1 * down g) e, zero-mul (up g)))
whole_minus (fin true (suc m) g) e =
    let c = suc m * up g / down g in
    let r = suc m * up g % down g in
    negative c (eqb r 0 && leb c (2 ^ 53)) (eqb (suc m) 0) (ne_eqb (suc m) 0 (λ q. omega arith)) (most_of r c)

pub whole_plain : (x : Float) → lt x (fin false 0 (pos 0)) ≡ false → whole_of x ≡ signed false (size_in x)
unfolding lt whole_of size_in whole in_unsigned to_unsigned to_signed
whole_plain nan e = refl
whole_plain (inf s) e = refl
whole_plain (fin false m g) e =
    let c = m * up g / down g in
    let r = m * up g % down g in
    positive c (eqb r 0 && leb c (2 ^ 53)) (eqb m 0) (most_of r c)
whole_plain (fin true zero g) e = rw (and-false (eqb (0 * up g % down g) 0 && leb (0 * up g / down g) (2 ^ 53)))
whole_plain (fin true (suc m) g) e =
    absurd (omega (arith, ltb-false 0 (suc m * up g * 1 + 0 * 1 * down g) e, mul-pos {m = suc m} {n = up g} (omega arith) (up_pos g)))

-- a number with a minus is not 0
positive_size : (a d : ℕ) → 0 < a → a % d ≡ 0 → 0 < a / d
positive_size a d h e =
    by_eq (a / d) 0
    (λ z _. let w : 0 * d + 0 ≡ a = rw (z, e) at (div-add-mod' a d) in absurd (omega (arith, zero-mul d)))
    (λ z _. omega arith)

minus_size : (x : Float) (n : ℕ) → lt x (fin false 0 (pos 0)) ≡ true → size_in (neg x) ≡ some n → 0 < n
unfolding lt size_in neg in_unsigned whole to_unsigned
minus_size nan n e q = absurd (let z : true ≡ false = sym e in let y : ◌≡◌ {A = ℕ} 0 1 = cc in omega arith)
minus_size (inf s) n e q = absurd (let z : ◌≡◌ {A = ℕ} 0 1 = cc in omega arith)
minus_size (fin false m g) n e q = absurd (omega (arith, ltb-true (m * up g * 1) (0 * 1 * down g) e))
minus_size (fin true zero g) n e q = absurd (omega (arith, ltb-true 0 (0 * up g * 1 + 0 * 1 * down g) e, zero-mul (up g)))
minus_size (fin true (suc m) g) n e q = go (in_unsigned binary64 64 (fin false (suc m) g)) refl q
  where
    go : (b : Bool) → in_unsigned binary64 64 (fin false (suc m) g) ≡ b →
        ◌≡◌ {A = Option ℕ} (cond b (some (min (suc m * up g / down g) (2 ^ 64 - 1))) none) (some n) → 0 < n
    go false t w = absurd (let z : ◌≡◌ {A = ℕ} 0 1 = cc in omega arith)
    go true t w =
        let c = suc m * up g / down g in
        let r = suc m * up g % down g in
        let test = subst T (sym t) tt in
        let z : r ≡ 0 =
        eqb→eq r 0 (and_l (eqb r 0) (leb c (2 ^ 53)) (and_l (eqb r 0 && leb c (2 ^ 53)) (not (false && eqb (suc m) 0))
        (and_l (eqb r 0 && leb c (2 ^ 53) && not (false && eqb (suc m) 0)) (true && ltb c (2 ^ 64)) test))) in
        let k = positive_size (suc m * up g) (down g) (mul-pos {m = suc m} {n = up g} (omega arith) (up_pos g)) z in
        let s : min c (2 ^ 64 - 1) ≡ n = cc in
        omega arith

abbrev pub a_whole : Bool → ℕ → Whole
a_whole s n = record { is_negative = s; size = n }

module _ (x : Float) where
  pub number_minus : lt x (fin false 0 (pos 0)) ≡ true → (n : ℕ) → some n ≡ size_in (neg x) → Some (a_whole true n) ≡ number_of (whole_of x)
  number_minus e zero s = absurd (not-suc-le-zero (minus_size x 0 e (sym s)))
  number_minus e (suc k) s = rw (whole_minus x e, ← s)

  pub number_plain : lt x (fin false 0 (pos 0)) ≡ false → (n : ℕ) → some n ≡ size_in x → Some (a_whole false n) ≡ number_of (whole_of x)
  number_plain e n s = rw (whole_plain x e, ← s)

  pub number_minus_not : lt x (fin false 0 (pos 0)) ≡ true → none ≡ size_in (neg x) → None ≡ number_of (whole_of x)
  number_minus_not e s = rw (whole_minus x e, ← s)

  pub number_plain_not : lt x (fin false 0 (pos 0)) ≡ false → none ≡ size_in x → None ≡ number_of (whole_of x)
  number_plain_not e s = rw (whole_plain x e, ← s)
