-- From a root at one scale to the root of a number: the arithmetic of exponents. Assumes nothing.
use mathlib.Core.Path.{◌≡◌, refl, sym, ap, ◌∙◌, subst}
use mathlib.Core.Logic.{inl, inr}
use mathlib.Core.Bool.{false}
use Prim.Native.Nat.{ℕ, zero, suc, ◌+◌, ◌-◌, ◌*◌, ◌/◌, ◌%◌, ◌^◌, ◌≤◌, ◌<◌}
use native.Mathlib.Nat.{le_of_suc-le-suc, le-add_left, eq-zero-or-pos, mul-le-mul, le_trans, lt_irrefl, lt_of_lt_of_le, lt_of_not-le}
use native.Mathlib.Nat.{not-le_of_lt, mul_comm, mul_assoc, mul_left_comm, mul-le-mul_right, le_of_mul-le-mul_right, mod-eq_of_lt}
use native.Mathlib.Nat.{mod-lt, pow-suc, zero-lt-suc, mul-one}
use native.Mathlib.Omega.{arith}
use lib.Dec.{T, lit≤}
use lib.Pow.{pow-add, pow_pos, pow_mono, shl_lt}
use lib.Count.{count_leading_zeros, leading_top}
use lib.Ieee.{Float, nan, inf, fin, le}
use lib.Ieee.Order.{le_of_values}
use lib.Ieee.Positive.{positive, values_of_le}
use lib.Ieee.Exact.{HasValue}
use Rattle.roots.specs.Roots.{Nearest, Rounded}
use Rattle.roots.specs.Working.{least_normal, Scaled}
use Rattle.roots.proofs.Newton.{square_le, Evened, shifted_by}
use Rattle.roots.proofs.Patterns.{Parts}

-- a fraction with both sides multiplied
pub widened : (x : Float) (a c k : ℕ) → HasValue x false a c → HasValue x false (a * k) (c * k)
widened nan a c k h = h
widened (inf t) a c k h = h
widened (fin t m e) a c k h =
    (h.0, simp (mul_assoc, mul_comm, mul_left_comm) (simp (mul_assoc, mul_comm) at (ap (λ (z : ℕ). z * k) h.1)))

-- the digits at a scale, brought to an even one
pub evened : (d t : ℕ) → 2 ^ 52 ≤ d → d < 2 ^ 53 → Evened (d * 2 ^ (t % 2))
evened d t lo hi = shifted_by d (t % 2) (mod-lt t (zero-lt-suc 1)) lo hi

-- A ROOT OF A NUMBER OF 105 OR 106 DIGITS HAS 53

pub root_ge : (a n : ℕ) → 2 ^ 104 ≤ a → Nearest a n → 2 ^ 52 ≤ n
unfolding Nearest
root_ge a n lo h =
    le_of_suc-le-suc (lt_of_not-le (λ (g : suc n ≤ 2 ^ 52).
    no ((2 * n + 1) * (2 * n + 1)) (square_le (2 * n + 1) (2 ^ 53 - 1) (omega arith)) h.1))
  where
    no : (q : ℕ) → q ≤ (2 ^ 53 - 1) * (2 ^ 53 - 1) → 4 * a < q → ⊥
    no q b c = omega arith

pub root_lt : (m n : ℕ) → m + 2 ≤ 2 ^ 54 → Nearest (m * 2 ^ 52) n → n < 2 ^ 53
unfolding Nearest
root_lt m n hi h =
    lt_of_not-le (λ (g : 2 ^ 53 ≤ n). no ((2 * n - 1) * (2 * n - 1)) (square_le (2 ^ 54 - 1) (2 * n - 1) (omega arith)) h.0)
  where
    no : (q : ℕ) → (2 ^ 54 - 1) * (2 ^ 54 - 1) ≤ q → q < 4 * (m * 2 ^ 52) → ⊥
    no q b c = omega arith

-- THE ROOT OF x

pub four : (j : ℕ) → 4 ^ j ≡ 2 ^ (j + j)
four zero = refl
four (suc j) =
    let e : suc j + suc j ≡ j + j + 2 = omega arith in
    pow-suc 4 j ∙ ap (λ (z : ℕ). z * 4) (four j) ∙ sym (ap (λ (z : ℕ). 2 ^ z) e ∙ pow-add 2 (j + j) 2)

pub four_pos : (j : ℕ) → 0 < 4 ^ j
four_pos j = rw (four j) (pow_pos (j + j))

-- digits at a scale t, at an even one
pub at_even : (d t : ℕ) → d * 2 ^ t * 2 ^ 52 ≡ d * 2 ^ (t % 2) * 2 ^ 52 * 4 ^ (t / 2)
at_even d t =
    let e : t ≡ t % 2 + (t / 2 + t / 2) = omega arith in
    let parted : 2 ^ t ≡ 2 ^ (t % 2) * 4 ^ (t / 2) =
    ap (λ (z : ℕ). 2 ^ z) e ∙ pow-add 2 (t % 2) (t / 2 + t / 2) ∙ ap (λ (z : ℕ). 2 ^ (t % 2) * z) (sym (four (t / 2))) in
    ap (λ (z : ℕ). d * z * 2 ^ 52) parted
    ∙ simp (mul_assoc, mul_comm, mul_left_comm)

pub rounded : (x r : Float) (d t : ℕ) → 2 ^ 52 ≤ d → d < 2 ^ 53 → HasValue x false (d * 2 ^ t) (2 ^ 2096) → Scaled d t r → Rounded x r
rounded x r d t lo hi v k =
    let b = evened d t lo hi in
    record {
      a = d * 2 ^ (t % 2) * 2 ^ 52;
      n = k.n;
      j = t / 2;
      argument = subst (λ (z : ℕ). HasValue x false z (2 ^ 2148)) (at_even d t) (widened x (d * 2 ^ t) (2 ^ 2096) (2 ^ 52) v);
      least = omega arith;
      most = omega arith;
      nearest = k.nearest;
      root = k.root;
    }

-- A NUMBER WITH ITS LEADING ZEROS SHIFTED OUT, for 52 digits in 64

abbrev pub zeros_of : ℕ → ℕ
zeros_of q = count_leading_zeros 64 q - 11

pub record Shifted (q : ℕ) : Type 0 where
  pub zeros_ge : 12 ≤ count_leading_zeros 64 q
  pub zeros_le : count_leading_zeros 64 q ≤ 63
  pub cut : (q * 2 ^ zeros_of q) % 2 ^ 64 ≡ q * 2 ^ zeros_of q
  pub low : 2 ^ 52 ≤ q * 2 ^ zeros_of q
  pub high : q * 2 ^ zeros_of q < 2 ^ 53

shifted : (q : ℕ) → 0 < q → q < 2 ^ 52 → Shifted q
shifted q p h =
    let w : q < 2 ^ 64 = omega arith in
    let t = leading_top 64 q p w in
    let j : ℕ = t.0 in
    let z : ℕ = zeros_of q in
    let e : count_leading_zeros 64 q + suc j ≡ 64 = t.1 in
    let j-lt : j < 52 = lt_of_not-le (λ g. lt_irrefl q (lt_of_lt_of_le h (le_trans (pow_mono g) t.2))) in
    let a : j + z ≡ 52 = omega arith in
    let b : suc j + z ≡ 53 = omega arith in
    let front : 2 ^ j * 2 ^ z ≡ 2 ^ 52 = sym (pow-add 2 j z) ∙ ap (λ (x : ℕ). 2 ^ x) a in
    let low : 2 ^ 52 ≤ q * 2 ^ z = subst (λ (x : ℕ). x ≤ q * 2 ^ z) front (mul-le-mul_right (2 ^ z) t.2) in
    let high : q * 2 ^ z < 2 ^ 53 = subst (λ (x : ℕ). q * 2 ^ z < 2 ^ x) b (shl_lt (suc j) z t.3) in
    record {
      zeros_ge = omega arith;
      zeros_le = omega arith;
      cut = mod-eq_of_lt (lt_of_lt_of_le high (lit≤ tt));
      low = low;
      high = high;
    }

-- WHAT IS HANDED ON OF x: its digits end in the last 52 of b, and their scale is t
pub record Ready (x : Float) (b t : ℕ) : Type 0 where
  pub least_scale : 900 ≤ t
  pub most_scale : t < 3070
  pub argument : HasValue x false ((b % 2 ^ 52 + 2 ^ 52) * 2 ^ t) (2 ^ 2096)

pub answered : (x r : Float) (b t : ℕ) → Ready x b t → Scaled (b % 2 ^ 52 + 2 ^ 52) t r → Rounded x r
answered x r b t h k = rounded x r (b % 2 ^ 52 + 2 ^ 52) t (omega arith) (omega arith) h.argument k

-- a power of two, put together and taken apart
joined : (n k l : ℕ) → n * 2 ^ k * 2 ^ l ≡ n * 2 ^ (k + l)
joined n k l = mul_assoc n (2 ^ k) (2 ^ l) ∙ ap (λ (x : ℕ). n * x) (sym (pow-add 2 k l))

pub normal : (x : Float) (b : ℕ) → Parts x b → (b / 2 ^ 52 ≡ 0 → ⊥) → Ready x b (b / 2 ^ 52 + 1021)
normal x b p some =
    let n : ℕ = b % 2 ^ 52 + 2 ^ 52 in
    let k : ℕ = b / 2 ^ 52 - 1 in
    let e : k + 1022 ≡ b / 2 ^ 52 + 1021 = omega arith in
    let v = widened x (n * 2 ^ k) (2 ^ 1074) (2 ^ 1022) (p.some some) in
    record {
      least_scale = omega arith;
      most_scale = omega (arith, p.field_lt);
      argument = subst (λ (y : ℕ). HasValue x false y (2 ^ 2096)) (joined n k 1022 ∙ ap (λ (y : ℕ). n * 2 ^ y) e) v;
    }

-- the leading digit, taken off with whatever stands above it, and put back
again : (y p : ℕ) → 2 ^ 52 ≤ y → y < 2 ^ 53 → (y + p * 2 ^ 52) % 2 ^ 52 + 2 ^ 52 ≡ y
again y p lo hi = omega arith

pub zeros_of_lem : (x : Float) (b : ℕ) → Parts x b → b / 2 ^ 52 ≡ 0 → Shifted b
zeros_of_lem x b p e = let n = p.none e in shifted b n.0 n.1

-- the pattern that `subnormal_root` hands on: the digits with the first one in front, and an exponent's lowest place above them
abbrev fronted : ℕ → ℕ
fronted b = (b * 2 ^ zeros_of b) % 2 ^ 64 + zeros_of b % 2 * 2 ^ 52

pub subnormal : (x : Float) (b : ℕ) → Parts x b → b / 2 ^ 52 ≡ 0 → Ready x (fronted b) (1022 - zeros_of b)
subnormal x b p e =
    let s = zeros_of_lem x b p e in
    let z : ℕ = zeros_of b in
    let whole : z + (1022 - z) ≡ 1022 = omega arith in
    let same : fronted b % 2 ^ 52 + 2 ^ 52 ≡ b * 2 ^ z = rw s.cut (again (b * 2 ^ z) (z % 2) s.low s.high) in
    let back : b * 2 ^ 0 * 2 ^ 1022 ≡ (fronted b % 2 ^ 52 + 2 ^ 52) * 2 ^ (1022 - z) =
    rw same (sym (joined b z (1022 - z) ∙ ap (λ (y : ℕ). b * 2 ^ y) whole ∙ ap (λ (y : ℕ). y * 2 ^ 1022) (sym (mul-one b)))) in
    record {
      least_scale = omega arith;
      most_scale = omega arith;
      argument = subst (λ (y : ℕ). HasValue x false y (2 ^ 2096)) back (widened x (b * 2 ^ 0) (2 ^ 1074) (2 ^ 1022) (p.none e).2);
    }

-- A NUMBER IS SUBNORMAL WHERE ITS FIELD IS 0

least_value : HasValue least_normal false 1 (2 ^ 1022)
least_value = (refl, refl)

pub not_zero : (x : Float) (b : ℕ) → Parts x b → T (positive x) → T (le least_normal x) → b / 2 ^ 52 ≡ 0 → ⊥
not_zero x b p a h z =
    let n = p.none z in
    let steps : 2 ^ 52 * 2 ^ 1022 ≤ b * 2 ^ 1022 =
    subst (λ (y : ℕ). 2 ^ 52 * 2 ^ 1022 ≤ y * 2 ^ 1022) (mul-one b)
    (values_of_le least_normal x 1 (2 ^ 1022) (b * 2 ^ 0) (2 ^ 1074) tt a least_value n.2 h) in
    not-le_of_lt n.1 (le_of_mul-le-mul_right {m = 2 ^ 52} {n = b} {k = 2 ^ 1022} steps (pow_pos 1022))

pub is_zero : (x : Float) (b : ℕ) → Parts x b → le least_normal x ≡ false → b / 2 ^ 52 ≡ 0
is_zero x b p h = elim (eq-zero-or-pos (b / 2 ^ 52)) [
  | inl z ↦ z
  | inr q ↦
      let d : ℕ = (b % 2 ^ 52 + 2 ^ 52) * 2 ^ (b / 2 ^ 52 - 1) in
      let big : 2 ^ 52 ≤ d = mul-le-mul (le-add_left (2 ^ 52) (b % 2 ^ 52)) (pow_pos (b / 2 ^ 52 - 1)) in
      let there = p.some (λ (z : b / 2 ^ 52 ≡ 0). omega arith) in
      absurd (subst T h
      (le_of_values least_normal x 1 (2 ^ 1022) d (2 ^ 1074) (pow_pos 1022) (pow_pos 1074) least_value there
      (mul-le-mul_right (2 ^ 1022) big)))
]
