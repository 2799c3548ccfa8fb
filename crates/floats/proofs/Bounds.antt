-- How far results reach: operations on floats of known bounds are finite, with a bound of their own. Assumes nothing.
use mathlib.Core.Path.{◌≡◌, refl, sym, ap, ◌∙◌}
use mathlib.Core.Bool.{Bool, true, false, not, ◌&&◌, ◌||◌, beq, cond, true≢false}
use Prim.Native.Nat.{ℕ, zero, suc, ◌+◌, ◌-◌, ◌*◌, ◌/◌, ◌%◌, ◌^◌, ◌≤◌, ◌<◌, compare}
use native.Mathlib.Nat.{le_trans, le_of_eq, le_of_lt, one-mul, mul-one, mul_comm, mul_assoc, mul_left_comm, mul_right_comm}
use native.Mathlib.Nat.{mul-le-mul, mul-le-mul_right, le_of_mul-le-mul_right, mul-pos, pow-suc}
use native.Mathlib.Numerals.{add-one}
use native.Mathlib.Omega.{arith}
use lib.Dec.{T, ltb, eqb, ltb→lt, eqb→eq, lit≤}
use lib.IntN.{ℤ, pos, negsuc, nat_abs}
use lib.Pow.{pow-add, pow_mono, pow-lt}
use lib.Ieee.{Float, nan, inf, fin, Format, prec, emax, low, unlike, up, down, size, nearest, odd, units, round}
use lib.Ieee.{neg, sum, add, sub, mul, of_int, le, is_nan}
use lib.Ieee.Fits.{two, down_pos, round_is}
use lib.Ieee.Exact.{HasValue, round_exact}
use lib.Ieee.Order.{round_mono}
use lib.Ieee.Scale.{finite}
use Rattle.floats.specs.Bounds.{AtMost}
use Rattle.floats.proofs.Rounding.{round_neg}

-- WHAT A BOUND SAYS

pub most_neg : (k : ℕ) (x : Float) → AtMost k x → AtMost k (neg x)
unfolding neg
most_neg k nan h = h
most_neg k (inf s) h = h
most_neg k (fin s m e) h = h

pub most_more : (j k : ℕ) (x : Float) → j ≤ k → AtMost j x → AtMost k x
most_more j k nan l h = h
most_more j k (inf s) l h = h
most_more j k (fin s m e) l h = le_trans h (mul-le-mul_right (down e) (pow_mono l))

pub most_number : (k : ℕ) (x : Float) → AtMost k x → T (not (is_nan x))
unfolding is_nan
most_number k nan h = absurd h
most_number k (inf s) h = tt
most_number k (fin s m e) h = tt

pub most_finite : (k : ℕ) (x : Float) → AtMost k x → T (finite x)
most_finite k nan h = absurd h
most_finite k (inf s) h = absurd h
most_finite k (fin s m e) h = tt

-- ROUNDING takes no fraction past a power of two

-- a rounded fraction has the sign that was asked for
abbrev Plus : Float → Type 0
Plus nan = ⊥
Plus (inf s) = s ≡ false
Plus (fin s m e) = s ≡ false

odd_plus : (d q k l : ℕ) → Plus (odd d false q k l)
unfolding odd
odd_plus d zero k l = refl
odd_plus d (suc q) k l = refl

units_plus : (f : Format) (q k : ℕ) → Plus (units f false q k)
unfolding units
units_plus f q k =
    let d = suc (prec f) in
    either (ltb (q * 2 ^ k) (2 ^ (low f + suc (emax f)))) (odd d false q k (low f)) (odd_plus d q k (low f))
  where
    either : (b : Bool) (x : Float) → Plus x → Plus (cond b x (inf false))
    either true x h = h
    either false x h = refl

round_plus : (f : Format) (a c : ℕ) → Plus (round f false a c)
round_plus f a c =
    let k = size (a * 2 ^ low f / c) - prec f in
    let u = c * 2 ^ k in
    rw (round_is f false a c) (units_plus f (nearest (a * 2 ^ low f / u) (compare (a * 2 ^ low f % u * 2) u)) k)

at_most : (a b : ℕ) (s : Bool) → T (ltb a b || (eqb a b && s)) → a ≤ b
at_most a b s = go (ltb a b) (eqb a b) (ltb→lt a b) (eqb→eq a b)
  where
    go : (p q : Bool) → (T p → a < b) → (T q → a ≡ b) → T (p || (q && s)) → a ≤ b
    go true q l e t = le_of_lt (l tt)
    go false true l e t = le_of_eq (e tt)
    go false false l e t = absurd t

-- x is no more than y, which is 2 ^ k
under : (k : ℕ) (x y : Float) → Plus x → HasValue y false (2 ^ k) 1 → T (le x y) → AtMost k x
unfolding le
under k nan y p v t = p
under k (inf true) y p v t = absurd (true≢false p)
under k (inf false) nan p v t = v
under k (inf false) (inf s) p v t = v
under k (inf false) (fin s n d) p v t = absurd t
under k (fin true m e) y p v t = absurd (true≢false p)
under k (fin false m e) nan p v t = absurd v
under k (fin false m e) (inf s) p v t = absurd v
under k (fin false m e) (fin true n d) p v t = absurd (true≢false v.0)
under k (fin false m e) (fin false n d) p v t =
    let cross : m * up e * down d ≤ n * up d * down e = at_most _ _ _ t in
    let value : n * up d ≡ 2 ^ k * down d = sym (mul-one (n * up d)) ∙ v.1 in
    le_of_mul-le-mul_right (le_trans cross (le_of_eq (rw value (mul_right_comm (2 ^ k) (down d) (down e))))) (down_pos d)

-- 2 ^ k itself is kept
power_value : (f : Format) (k : ℕ) → k ≤ emax f → HasValue (round f false (2 ^ k) 1) false (2 ^ k) 1
power_value f k h =
    let small : 1 < 2 ^ prec f = pow-lt {i = 0} {j = prec f} (le_trans (lit≤ tt) (two f)) in
    let shift : 2 ^ k * 2 ^ low f ≡ 1 * 2 ^ (k + low f) * 1 = sym (pow-add 2 k (low f)) ∙ sym (mul-one _ ∙ one-mul _) in
    let fine : 1 * 2 ^ (k + low f) < 2 ^ (low f + suc (emax f)) = rw (one-mul (2 ^ (k + low f))) (pow-lt (omega arith)) in
    round_exact f false (2 ^ k) 1 1 (k + low f) (lit≤ tt) small fine shift

module _ (f : Format) (k : ℕ) (h : k ≤ emax f) where
  round_plus_most : (a c : ℕ) → 0 < c → a ≤ 2 ^ k * c → AtMost k (round f false a c)
  round_plus_most a c C l =
      under k (round f false a c) (round f false (2 ^ k) 1) (round_plus f a c) (power_value f k h)
      (round_mono f a c (2 ^ k) 1 C (lit≤ tt) (le_trans (le_of_eq (mul-one a)) l))

  pub round_most : (s : Bool) (a c : ℕ) → 0 < c → a ≤ 2 ^ k * c → AtMost k (round f s a c)
  round_most false a c C l = round_plus_most a c C l
  round_most true a c C l = rw (round_neg f false a c) (most_neg k (round f false a c) (round_plus_most a c C l))

-- THE OPERATIONS

regroup : (a b c d : ℕ) → a * c * (b * d) ≡ a * b * (c * d)
regroup a b c d = simp (mul_assoc, mul_left_comm)

pub mul_most : (f : Format) (j k : ℕ) (x y : Float) → j + k ≤ emax f → AtMost j x → AtMost k y → AtMost (j + k) (mul f x y)
unfolding mul
mul_most f j k nan y l h g = absurd h
mul_most f j k (inf s) y l h g = absurd h
mul_most f j k (fin s m e) nan l h g = absurd g
mul_most f j k (fin s m e) (inf t) l h g = absurd g
mul_most f j k (fin s m e) (fin t n d) l h g =
    let powers : 2 ^ j * down e * (2 ^ k * down d) ≡ 2 ^ (j + k) * (down e * down d) =
    regroup (2 ^ j) (2 ^ k) (down e) (down d) ∙ ap (λ (z : ℕ). z * (down e * down d)) (sym (pow-add 2 j k)) in
    round_most f (j + k) l (unlike s t) _ _ (mul-pos (down_pos e) (down_pos d)) (le_trans (mul-le-mul h g) (le_of_eq powers))

module _ (f : Format) (k : ℕ) (l : k + 1 ≤ emax f) where
  twice : (q c : ℕ) → q * 2 * c ≡ q * c + q * c
  twice q c = mul_right_comm q 2 c ∙ two_of (q * c)
    where
      two_of : (z : ℕ) → z * 2 ≡ z + z
      two_of z = omega arith

  either : (b : Bool) (x y : Float) → AtMost (k + 1) x → AtMost (k + 1) y → AtMost (k + 1) (cond b x y)
  either true x y p q = p
  either false x y p q = q

  sum_most : (s t : Bool) (a b c : ℕ) → 0 < c → a ≤ 2 ^ k * c → b ≤ 2 ^ k * c → AtMost (k + 1) (sum f s a t b c)
  unfolding sum
  sum_most s t a b c C h g =
      let double : 2 ^ (k + 1) * c ≡ 2 ^ k * c + 2 ^ k * c = rw (add-one, pow-suc) (twice (2 ^ k) c) in
      let far : (u : Bool) (z : ℕ) → z ≤ 2 ^ k * c + 2 ^ k * c → AtMost (k + 1) (round f u z c) =
      λ u z w. round_most f (k + 1) l u z c C (rw double w) in
      either (beq s t) _ _ (far s (a + b) (omega arith))
      (either (ltb a b) _ _ (far t (b - a) (omega arith)) (far _ (a - b) (omega arith)))

  pub add_most : (x y : Float) → AtMost k x → AtMost k y → AtMost (k + 1) (add f x y)
  unfolding add
  add_most nan y h g = absurd h
  add_most (inf s) y h g = absurd h
  add_most (fin s m e) nan h g = absurd g
  add_most (fin s m e) (inf t) h g = absurd g
  add_most (fin s m e) (fin t n d) h g =
      let other : 2 ^ k * down d * down e ≡ 2 ^ k * (down e * down d) =
      mul_assoc (2 ^ k) (down d) (down e) ∙ ap (λ (z : ℕ). 2 ^ k * z) (mul_comm (down d) (down e)) in
      sum_most s t _ _ _ (mul-pos (down_pos e) (down_pos d))
      (le_trans (mul-le-mul_right (down d) h) (le_of_eq (mul_assoc (2 ^ k) (down e) (down d))))
      (le_trans (mul-le-mul_right (down e) g) (le_of_eq other))

  pub sub_most : (x y : Float) → AtMost k x → AtMost k y → AtMost (k + 1) (sub f x y)
  unfolding sub
  sub_most x y h g = add_most x (neg y) h (most_neg k y g)

pub of_int_most : (f : Format) (k : ℕ) (z : ℤ) → k ≤ emax f → nat_abs z ≤ 2 ^ k → AtMost k (of_int f z)
unfolding of_int
of_int_most f k (pos n) l h = round_most f k l false n 1 (lit≤ tt) (le_trans h (le_of_eq (sym (mul-one (2 ^ k)))))
of_int_most f k (negsuc n) l h = round_most f k l true (suc n) 1 (lit≤ tt) (le_trans h (le_of_eq (sym (mul-one (2 ^ k)))))
