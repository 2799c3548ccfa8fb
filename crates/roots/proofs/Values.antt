-- `root` is the square root: `IsRoot x (root x)` for every binary64 x. So an answer that is a root of x is `root x`. Assumes nothing.
use mathlib.Core.Path.{◌≡◌, refl, sym, ap, ◌∙◌, subst}
use mathlib.Core.Logic.{inl, inr}
use mathlib.Core.Bool.{Bool, true, false, not, cond}
use Prim.Native.Nat.{ℕ, zero, suc, ◌+◌, ◌-◌, ◌*◌, ◌/◌, ◌%◌, ◌^◌, ◌≤◌, ◌<◌}
use native.Mathlib.Nat.{le_trans, le_of_lt, le_of_eq, le_antisymm, lt_of_lt_of_le, lt_irrefl, lt_of_not-le, zero-lt-suc, mul_assoc}
use native.Mathlib.Nat.{mul_right_comm, mul-le-mul_right, mul-div_cancel, mul-one, pow-suc, two-mul, add-mul, mul-add, one-mul}
use native.Mathlib.Nat.{div-lt_iff_lt-mul, eq-zero-or-pos}
use native.Mathlib.Omega.{arith}
use lib.Dec.{T, leb, ltb, leb→le, nleb→lt, ltb→lt, nltb→le, lit≤, lt→ltb}
use lib.Pow.{pow-add, pow_mono, shl_lt}
use lib.IntN.{ℤ}
use lib.Ieee.{Float, nan, inf, fin, binary64, up, down, size, units, fits, to_bits}
use lib.Ieee.Bits.{is_true}
use lib.Ieee.Digits.{size-lt, size-le}
use lib.Ieee.Fits.{down_pos, odd-fits, nan-fits, inf-fits}
use lib.Ieee.Exact.{HasValue, units_val}
use Rattle.roots.specs.Roots.{Nearest, Rounded, IsRoot}
use Rattle.roots.specs.Values.{floor_root, nearest_root, scale_of, root_of, root}
use Rattle.roots.specs.Working.{Scaled}
use Rattle.roots.proofs.Halves.{near, next_square}
use Rattle.roots.proofs.Patterns.{parts}
use Rattle.roots.proofs.Scales.{evened, root_lt, four_pos, at_even, rounded, Ready, normal, subnormal}
use Rattle.roots.proofs.Only.{root_only}

-- THE ROOT OF A WHOLE NUMBER

-- r is the root of a, cut to a whole number
abbrev IsFloor : (a r : ℕ) → Type 0
IsFloor a r = (r * r ≤ a) × (a < (r + 1) * (r + 1))

floor_step : (a r : ℕ) → IsFloor (a / 4) r → IsFloor a (cond (leb ((2 * r + 1) * (2 * r + 1)) a) (2 * r + 1) (2 * r))
floor_step a r h = go (leb ((2 * r + 1) * (2 * r + 1)) a) (leb→le ((2 * r + 1) * (2 * r + 1)) a) (nleb→lt ((2 * r + 1) * (2 * r + 1)) a)
  where
    even : 2 * r * (2 * r) ≡ 4 * (r * r)
    even = simp (two-mul, add-mul, mul-add) (omega arith)

    after : (2 * r + 1 + 1) * (2 * r + 1 + 1) ≡ 4 * ((r + 1) * (r + 1))
    after = simp (two-mul, add-mul, mul-add, mul-one, one-mul) (omega arith)

    go : (b : Bool) → (T b → (2 * r + 1) * (2 * r + 1) ≤ a) → (T (not b) → a < (2 * r + 1) * (2 * r + 1)) →
        IsFloor a (cond b (2 * r + 1) (2 * r))
    go true le lt = (le tt, omega (arith, after))
    go false le lt = (omega (arith, even), lt tt)

floor_right : (k a : ℕ) → a < 4 ^ k → IsFloor a (floor_root k a)
unfolding floor_root
floor_right zero a h = (omega arith, omega arith)
floor_right (suc k) a h =
    floor_step a (floor_root k (a / 4))
    (floor_right k (a / 4) ((div-lt_iff_lt-mul (zero-lt-suc 3)).1 (subst (λ (z : ℕ). a < z) (pow-suc 4 k) h)))

pub nearest_right : (a : ℕ) → 0 < a → a < 4 ^ 53 → Nearest a (nearest_root a)
unfolding nearest_root
nearest_right a p h =
    let r : ℕ = floor_root 53 a in
    go r (floor_right 53 a h) (ltb (r * r + r) a) (ltb→lt (r * r + r) a) (nltb→le (r * r + r) a)
  where
    pos : (r : ℕ) → a < (r + 1) * (r + 1) → a ≤ r * r + r → 0 < r
    pos zero u v = omega arith
    pos (suc r) u v = zero-lt-suc r

    go : (r : ℕ) → IsFloor a r → (b : Bool) → (T b → r * r + r < a) → (T (not b) → a ≤ r * r + r) → Nearest a (cond b (suc r) r)
    go r f true u v =
        let x = u tt in
        let e : suc r * suc r ≡ (r + 1) * (r + 1) = (let s : suc r ≡ r + 1 = omega arith in ap (λ (z : ℕ). z * z) s) in
        near a (suc r) (zero-lt-suc r) (omega (arith, next_square r)) (omega (arith, next_square r))
    go r f false u v = let x = v tt in near a r (pos r f.1 x) (omega (arith, pos r f.1 x)) x

-- HOW MANY DIGITS, AND THE SCALE

digits_of : (d t : ℕ) → 2 ^ 52 ≤ d → d < 2 ^ 53 → size (d * 2 ^ t) ≡ 53 + t
digits_of d t lo hi =
    let most : 2 ^ (52 + t) ≤ d * 2 ^ t = le_trans (le_of_eq (pow-add 2 52 t)) (mul-le-mul_right (2 ^ t) lo) in
    let more : 52 + t < size (d * 2 ^ t) =
    lt_of_not-le (λ (g : size (d * 2 ^ t) ≤ 52 + t).
    lt_irrefl (d * 2 ^ t) (lt_of_lt_of_le (size-lt (d * 2 ^ t)) (le_trans (pow_mono g) most))) in
    le_antisymm (size-le (d * 2 ^ t) (53 + t) (shl_lt 53 t hi)) (omega arith)

units_fits : (q k : ℕ) → q < 2 ^ 53 → q * 2 ^ k < 2 ^ 2098 → T (fits binary64 (units binary64 false q k))
unfolding units
units_fits q k h l =
    rw (is_true (ltb (q * 2 ^ k) (2 ^ 2098)) (lt→ltb (q * 2 ^ k) (2 ^ 2098) l))
    (odd-fits binary64 54 false q k (lt_of_lt_of_le h (lit≤ tt)) (le_of_lt h) l)

-- THE ROOT OF DIGITS AT A SCALE, as `root` makes it

module _ (d t : ℕ) (lo : 2 ^ 52 ≤ d) (hi : d < 2 ^ 53) (most : t < 3070) where
  scale_is : scale_of (size (d * 2 ^ t * 2 ^ 52)) ≡ t / 2
  scale_is =
      let joined : d * 2 ^ t * 2 ^ 52 ≡ d * 2 ^ (t + 52) = mul_assoc d (2 ^ t) (2 ^ 52) ∙ ap (λ (z : ℕ). d * z) (sym (pow-add 2 t 52)) in
      let half : (53 + (t + 52) - 105) / 2 ≡ t / 2 = omega arith in
      ap (λ (z : ℕ). scale_of (size z)) joined ∙ ap scale_of (digits_of d (t + 52) lo hi) ∙ half

  digits_are : d * 2 ^ t * 2 ^ 52 / 4 ^ (t / 2) ≡ d * 2 ^ (t % 2) * 2 ^ 52
  digits_are = ap (λ (z : ℕ). z / 4 ^ (t / 2)) (at_even d t) ∙ mul-div_cancel (d * 2 ^ (t % 2) * 2 ^ 52) (four_pos (t / 2))

  root_is : root_of (d * 2 ^ t * 2 ^ 52) ≡ units binary64 false (nearest_root (d * 2 ^ (t % 2) * 2 ^ 52)) (t / 2)
  root_is =
      let X : ℕ = d * 2 ^ t * 2 ^ 52 in
      ap (λ (j : ℕ). units binary64 false (nearest_root (X / 4 ^ j)) j) scale_is
      ∙ ap (λ (a : ℕ). units binary64 false (nearest_root a) (t / 2)) digits_are

  nearest_there : Nearest (d * 2 ^ (t % 2) * 2 ^ 52) (nearest_root (d * 2 ^ (t % 2) * 2 ^ 52))
  nearest_there =
      let e = evened d t lo hi in
      let small : d * 2 ^ (t % 2) * 2 ^ 52 < 2 ^ 106 = omega arith in
      nearest_right (d * 2 ^ (t % 2) * 2 ^ 52) (omega arith) (lt_of_lt_of_le small (lit≤ tt))

  few_digits : nearest_root (d * 2 ^ (t % 2) * 2 ^ 52) < 2 ^ 53
  few_digits = root_lt (d * 2 ^ (t % 2)) (nearest_root (d * 2 ^ (t % 2) * 2 ^ 52)) (evened d t lo hi).high nearest_there

  no_overflow : nearest_root (d * 2 ^ (t % 2) * 2 ^ 52) * 2 ^ (t / 2) < 2 ^ 2098
  no_overflow = lt_of_lt_of_le (shl_lt 53 (t / 2) few_digits) (pow_mono {i = 53 + t / 2} {j = 2098} (omega arith))

  scaled : Scaled d t (root_of (d * 2 ^ t * 2 ^ 52))
  scaled = record {
    n = nearest_root (d * 2 ^ (t % 2) * 2 ^ 52);
    nearest = nearest_there;
    root = rw root_is (units_val binary64 false (nearest_root (d * 2 ^ (t % 2) * 2 ^ 52)) (t / 2) no_overflow);
  }

  scaled_fits : T (fits binary64 (root_of (d * 2 ^ t * 2 ^ 52)))
  scaled_fits = rw root_is (units_fits (nearest_root (d * 2 ^ (t % 2) * 2 ^ 52)) (t / 2) few_digits no_overflow)

-- THE ROOT OF A NUMBER ABOVE 0

-- a root of x that the format holds
abbrev Answer : (x r : Float) → Type 0
Answer x r = Rounded x r × T (fits binary64 r)

-- a number of so many smallest steps squared
size_of : (m : ℕ) (e : ℤ) (d t : ℕ) → HasValue (fin false m e) false (d * 2 ^ t) (2 ^ 2096) →
    m * up e * 2 ^ 2148 / down e ≡ d * 2 ^ t * 2 ^ 52
size_of m e d t v =
    ap (λ (z : ℕ). z / down e)
    (sym (mul_assoc (m * up e) (2 ^ 2096) (2 ^ 52)) ∙ ap (λ (z : ℕ). z * 2 ^ 52) v.1 ∙ mul_right_comm (d * 2 ^ t) (down e) (2 ^ 52))
    ∙ mul-div_cancel (d * 2 ^ t * 2 ^ 52) (down_pos e)

of_ready : (m : ℕ) (e : ℤ) (b t : ℕ) → Ready (fin false (suc m) e) b t →
    Answer (fin false (suc m) e) (root_of (suc m * up e * 2 ^ 2148 / down e))
of_ready m e b t r =
    let d : ℕ = b % 2 ^ 52 + 2 ^ 52 in
    let lo : 2 ^ 52 ≤ d = omega arith in
    let hi : d < 2 ^ 53 = omega arith in
    subst (λ (X : ℕ). Answer (fin false (suc m) e) (root_of X)) (sym (size_of (suc m) e d t r.argument))
    (rounded (fin false (suc m) e) _ d t lo hi r.argument (scaled d t lo hi r.most_scale), scaled_fits d t lo hi r.most_scale)

of_positive : (m : ℕ) (e : ℤ) → T (fits binary64 (fin false (suc m) e)) →
    Answer (fin false (suc m) e) (root_of (suc m * up e * 2 ^ 2148 / down e))
of_positive m e f =
    let x : Float = fin false (suc m) e in
    let b : ℕ = to_bits binary64 x in
    let p = parts x f (lt→ltb 0 (suc m) (zero-lt-suc m)) in
    elim (eq-zero-or-pos (b / 2 ^ 52)) [
      | inl z ↦ of_ready m e _ _ (subnormal x b p z)
      | inr g ↦ of_ready m e _ _ (normal x b p (λ (z : b / 2 ^ 52 ≡ 0). omega arith))
    ]

pub root_is_root : (x : Float) → T (fits binary64 x) → IsRoot x (root x)
unfolding IsRoot root
root_is_root nan f = refl
root_is_root (inf true) f = refl
root_is_root (inf false) f = refl
root_is_root (fin s zero e) f = refl
root_is_root (fin true (suc m) e) f = refl
root_is_root (fin false (suc m) e) f = (of_positive m e f).0

pub root_fits : (x : Float) → T (fits binary64 x) → T (fits binary64 (root x))
unfolding root
root_fits nan f = nan-fits binary64
root_fits (inf true) f = nan-fits binary64
root_fits (inf false) f = inf-fits binary64 false
root_fits (fin s zero e) f = f
root_fits (fin true (suc m) e) f = nan-fits binary64
root_fits (fin false (suc m) e) f = (of_positive m e f).1

pub root_value : (x r : Float) → T (fits binary64 x) → T (fits binary64 r) → IsRoot x r → r ≡ root x
root_value x r f g h = root_only x r (root x) g (root_fits x f) h (root_is_root x f)
