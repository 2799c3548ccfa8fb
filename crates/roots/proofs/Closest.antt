-- The rounded root is what IEEE 754 asks for: every other binary64 lies farther off. In smallest steps of the format a value is q * 2 ^ k
-- with q < 2 ^ 53 (`in_steps`), the root r is n * 2 ^ j, and 4x is 4 * (a * 4 ^ j) of those steps squared. √x is below the middle
-- between r and each larger y (`nearer_than_above`), and above the middle between r and each smaller y (`nearer_than_below`).
-- Assumes nothing.
use mathlib.Core.Path.{◌≡◌, refl, sym, ap, ◌∙◌, subst}
use mathlib.Core.Logic.{inl, inr}
use mathlib.Core.Bool.{true, false, false≢true}
use Prim.Native.Nat.{ℕ, zero, suc, ◌+◌, ◌-◌, ◌*◌, ◌/◌, ◌%◌, ◌^◌, ◌≤◌, ◌<◌}
use native.Mathlib.Nat.{le_trans, le_of_lt, le_of_eq, lt_of_le_of_lt, lt_of_lt_of_le, lt_irrefl, lt_of_not-le, le_of_suc-le-suc}
use native.Mathlib.Nat.{eq-or-lt_of_le, eq-zero-or-pos, mul_assoc, mul-le-mul_left, mul-le-mul_right, mul-lt-mul_of_pos_right}
use native.Mathlib.Nat.{lt_of_mul-lt-mul_right, add-mul, mul-mul-mul_comm, zero-lt-suc, zero-mul}
use native.Mathlib.Decide.{dec_le}
use native.Mathlib.Omega.{arith}
use lib.Pow.{pow-add, pow_mono, shl_lt}
use lib.Dec.{T, lt→ltb, lit<}
use lib.Ieee.{Float, nan, inf, fin, binary64, fits, to_bits}
use lib.Ieee.Exact.{HasValue}
use lib.Ieee.Positive.{positive}
use Rattle.roots.specs.Roots.{Nearest, Rounded}
use Rattle.roots.specs.Facts.{Closest}
use Rattle.roots.proofs.Newton.{square_le}
use Rattle.roots.proofs.Patterns.{Steps, parts}
use Rattle.roots.proofs.Scales.{four, four_pos, root_ge}
use Rattle.roots.proofs.Only.{one_size}

-- NEIGHBOURS: a value above n * 2 ^ j is at least the next multiple of 2 ^ j, and one below it at most the one before

multiple : (q k j : ℕ) → j ≤ k → q * 2 ^ k ≡ q * 2 ^ (k - j) * 2 ^ j
multiple q k j h =
    let e : k ≡ k - j + j = omega arith in
    ap (λ (z : ℕ). q * 2 ^ z) e ∙ ap (λ (z : ℕ). q * z) (pow-add 2 (k - j) j) ∙ sym (mul_assoc q (2 ^ (k - j)) (2 ^ j))

-- at a lower scale 53 digits reach no further than 2 ^ 52 does at this one
lower : (q k j : ℕ) → q < 2 ^ 53 → k < j → q * 2 ^ k < 2 ^ 52 * 2 ^ j
lower q k j h l = lt_of_lt_of_le (shl_lt 53 k h) (le_trans (pow_mono {j = 52 + j} (omega arith)) (le_of_eq (pow-add 2 52 j)))

next_up : (n q k j : ℕ) → 2 ^ 52 ≤ n → q < 2 ^ 53 → n * 2 ^ j < q * 2 ^ k → suc n * 2 ^ j ≤ q * 2 ^ k
next_up n q k j lo h l = either (dec_le j k)
  where
    either : Dec (j ≤ k) → suc n * 2 ^ j ≤ q * 2 ^ k
    either (yes g) =
        let e = multiple q k j g in
        let more = lt_of_mul-lt-mul_right (2 ^ j) (subst (λ (z : ℕ). n * 2 ^ j < z) e l) in
        le_trans (mul-le-mul_right (2 ^ j) more) (le_of_eq (sym e))
    either (no f) =
        let under = lower q k j h (lt_of_not-le f) in
        absurd (lt_irrefl (n * 2 ^ j) (lt_of_lt_of_le l (le_trans (le_of_lt under) (mul-le-mul_right (2 ^ j) lo))))

next_down : (n q k j : ℕ) → 2 ^ 52 < suc n → q < 2 ^ 53 → q * 2 ^ k < suc n * 2 ^ j → q * 2 ^ k ≤ n * 2 ^ j
next_down n q k j lo h l = either (dec_le j k)
  where
    either : Dec (j ≤ k) → q * 2 ^ k ≤ n * 2 ^ j
    either (yes g) =
        let e = multiple q k j g in
        let less = lt_of_mul-lt-mul_right (2 ^ j) (subst (λ (z : ℕ). z < suc n * 2 ^ j) e l) in
        le_trans (le_of_eq e) (mul-le-mul_right (2 ^ j) (le_of_suc-le-suc less))
    either (no f) = le_trans (le_of_lt (lower q k j h (lt_of_not-le f))) (mul-le-mul_right (2 ^ j) (le_of_suc-le-suc lo))

-- SQUARES at a scale

squared : (c j : ℕ) → c * 2 ^ j * (c * 2 ^ j) ≡ c * c * 4 ^ j
squared c j = mul-mul-mul_comm c (2 ^ j) c (2 ^ j) ∙ ap (λ (z : ℕ). c * c * z) (sym (four j ∙ pow-add 2 j j))

pub square_lt : (a b : ℕ) → a < b → a * a < b * b
square_lt a b g = lt_of_le_of_lt (mul-le-mul_left a (le_of_lt g)) (mul-lt-mul_of_pos_right g (omega arith))

-- the middle between two neighbours, (2n + 1) halves or (2n - 1) halves
middle_up : (n j : ℕ) → (2 * n + 1) * 2 ^ j ≡ n * 2 ^ j + suc n * 2 ^ j
middle_up n j =
    let e : 2 * n + 1 ≡ n + suc n = omega arith in
    ap (λ (z : ℕ). z * 2 ^ j) e ∙ add-mul n (suc n) (2 ^ j)

-- THE MIDDLES

module _ (x r : Float) (h : Rounded x r) where
  nearer_than_above : (q k : ℕ) → q < 2 ^ 53 → h.n * 2 ^ h.j < q * 2 ^ k →
      4 * (h.a * 4 ^ h.j) < (h.n * 2 ^ h.j + q * 2 ^ k) * (h.n * 2 ^ h.j + q * 2 ^ k)
  unfolding Nearest
  nearer_than_above q k s l =
      let n : ℕ = h.n in
      let j : ℕ = h.j in
      let up : suc n * 2 ^ j ≤ q * 2 ^ k = next_up n q k j (root_ge h.a n h.least h.nearest) s l in
      let within : (2 * n + 1) * 2 ^ j ≤ n * 2 ^ j + q * 2 ^ k = omega (arith, middle_up n j) in
      let below : 4 * (h.a * 4 ^ j) < (2 * n + 1) * (2 * n + 1) * 4 ^ j =
      subst (λ (z : ℕ). z < (2 * n + 1) * (2 * n + 1) * 4 ^ j) (mul_assoc 4 h.a (4 ^ j))
      (mul-lt-mul_of_pos_right h.nearest.1 (four_pos j)) in
      lt_of_lt_of_le below
      (le_trans (le_of_eq (sym (squared (2 * n + 1) j))) (square_le ((2 * n + 1) * 2 ^ j) (n * 2 ^ j + q * 2 ^ k) within))

  -- r is 2 ^ 52 steps, the smallest root at this scale: √a is no smaller
  below_smallest : (q k : ℕ) → 2 ^ 52 ≡ h.n → q * 2 ^ k < h.n * 2 ^ h.j →
      (h.n * 2 ^ h.j + q * 2 ^ k) * (h.n * 2 ^ h.j + q * 2 ^ k) < 4 * (h.a * 4 ^ h.j)
  below_smallest q k e l =
      let n : ℕ = h.n in
      let j : ℕ = h.j in
      let under : n * 2 ^ j + q * 2 ^ k < 2 * n * 2 ^ j = omega (arith, mul_assoc 2 n (2 ^ j)) in
      let least : 2 * n * (2 * n) ≤ 4 * h.a = rw (sym e) (omega (arith, h.least)) in
      lt_of_lt_of_le (square_lt (n * 2 ^ j + q * 2 ^ k) (2 * n * 2 ^ j) under)
      (le_trans (le_of_eq (squared (2 * n) j)) (le_trans (mul-le-mul_right (4 ^ j) least) (le_of_eq (mul_assoc 4 h.a (4 ^ j)))))

  below_others : (q k : ℕ) → q < 2 ^ 53 → 2 ^ 52 < h.n → q * 2 ^ k < h.n * 2 ^ h.j →
      (h.n * 2 ^ h.j + q * 2 ^ k) * (h.n * 2 ^ h.j + q * 2 ^ k) < 4 * (h.a * 4 ^ h.j)
  unfolding Nearest
  below_others q k s g l =
      let n : ℕ = h.n - 1 in
      let j : ℕ = h.j in
      let is : h.n ≡ suc n = omega arith in
      let down : q * 2 ^ k ≤ n * 2 ^ j = next_down n q k j (omega arith) s (subst (λ (z : ℕ). q * 2 ^ k < z * 2 ^ j) is l) in
      let odd : 2 * h.n - 1 ≡ 2 * n + 1 = omega arith in
      let halves : (2 * h.n - 1) * 2 ^ j ≡ n * 2 ^ j + h.n * 2 ^ j =
      ap (λ (z : ℕ). z * 2 ^ j) odd ∙ middle_up n j ∙ ap (λ (z : ℕ). n * 2 ^ j + z * 2 ^ j) (sym is) in
      let within : h.n * 2 ^ j + q * 2 ^ k ≤ (2 * h.n - 1) * 2 ^ j = omega arith in
      lt_of_le_of_lt (square_le (h.n * 2 ^ j + q * 2 ^ k) ((2 * h.n - 1) * 2 ^ j) within)
      (lt_of_le_of_lt (le_of_eq (squared (2 * h.n - 1) j))
      (subst (λ (z : ℕ). (2 * h.n - 1) * (2 * h.n - 1) * 4 ^ j < z) (mul_assoc 4 h.a (4 ^ j))
      (mul-lt-mul_of_pos_right h.nearest.0 (four_pos j))))

  nearer_than_below : (q k : ℕ) → q < 2 ^ 53 → q * 2 ^ k < h.n * 2 ^ h.j →
      (h.n * 2 ^ h.j + q * 2 ^ k) * (h.n * 2 ^ h.j + q * 2 ^ k) < 4 * (h.a * 4 ^ h.j)
  nearer_than_below q k s l = elim (eq-or-lt_of_le (root_ge h.a h.n h.least h.nearest)) [
    | inl e ↦ below_smallest q k e l
    | inr g ↦ below_others q k s g l
  ]

-- EVERY VALUE IN STEPS: a whole number of 53 digits at some scale

pub positive_in_steps : (y : Float) → T (fits binary64 y) → T (positive y) → (q : ℕ) × (k : ℕ) × (q < 2 ^ 53) × Steps y q k
positive_in_steps y f p =
    let b : ℕ = to_bits binary64 y in
    let s = parts y f p in
    elim (eq-zero-or-pos (b / 2 ^ 52)) [
      | inl z ↦ let t = s.none z in (b, 0, (let l = t.1 in omega arith), t.2)
      | inr g ↦ (b % 2 ^ 52 + 2 ^ 52, b / 2 ^ 52 - 1, omega arith, s.some (λ (z : b / 2 ^ 52 ≡ 0). omega arith))
    ]

in_steps : (y : Float) (Y : ℕ) → T (fits binary64 y) → HasValue y false Y (2 ^ 1074) → (q : ℕ) × (k : ℕ) × (q < 2 ^ 53) × Steps y q k
in_steps nan Y f v = absurd v
in_steps (inf s) Y f v = absurd v
in_steps (fin true m e) Y f v = absurd (false≢true (sym v.0))
in_steps (fin false zero e) Y f v = (0, 0, lit< tt, (refl, simp zero-mul))
in_steps (fin false (suc m) e) Y f v = positive_in_steps (fin false (suc m) e) f (lt→ltb 0 (suc m) (zero-lt-suc m))

pub closest : (x r y : Float) (X R Y : ℕ) → Closest x r y X R Y
closest x r y X R Y h f vx vr vy =
    let s = in_steps y Y f vy in
    let X-is : h.a * 4 ^ h.j ≡ X = one_size x (h.a * 4 ^ h.j) X (2 ^ 2148) h.argument vx in
    let R-is : h.n * 2 ^ h.j ≡ R = one_size r (h.n * 2 ^ h.j) R (2 ^ 1074) h.root vr in
    let Y-is : s.0 * 2 ^ s.1 ≡ Y = one_size y (s.0 * 2 ^ s.1) Y (2 ^ 1074) s.3 vy in (
      rw (X-is, R-is, Y-is) at (nearer_than_above x r h s.0 s.1 s.2),
      rw (X-is, R-is, Y-is) at (nearer_than_below x r h s.0 s.1 s.2),
    )
