-- The arithmetic of `nearest_root`. With h the root of m, cut to a whole number, and the rest (m - h²) * 2 ^ 31 parted by 64h into low and
-- left: m * 2 ^ 52 + low² is (h * 2 ^ 26 + low)² + left * 2 ^ 21. So the root of m * 2 ^ 52 is h * 2 ^ 26 + low, but for low², which is too
-- small to count, and for left, which decides the rounding. Assumes nothing.
use mathlib.Core.Path.{◌≡◌, sym}
use Prim.Native.Nat.{ℕ, zero, suc, ◌+◌, ◌-◌, ◌*◌, ◌/◌, ◌%◌, ◌^◌, ◌≤◌, ◌<◌}
use native.Mathlib.Nat.{le_trans, lt_irrefl, lt_of_not-le, not-le_of_lt, add_comm, add_assoc, add_left_comm, mul_comm, mul_assoc}
use native.Mathlib.Nat.{mul_left_comm, mul-add, add-mul, mul-one, one-mul, two-mul, suc-mul, mul-suc, mul-le-mul_right}
use native.Mathlib.Nat.{div-le_of_le-mul, div-add-mod', mod-lt}
use native.Mathlib.Omega.{arith}
use Rattle.roots.specs.Roots.{Nearest}
use Rattle.roots.proofs.Newton.{square_le}

-- A WHOLE NUMBER IS NEAREST to the root of a where a is within n of n²

pub odd_square : (k : ℕ) → (2 * k + 1) * (2 * k + 1) ≡ 4 * (k * k) + 4 * k + 1
odd_square k = simp (two-mul, add-mul, mul-add, mul-one, one-mul) (omega arith)

pub next_square : (k : ℕ) → (k + 1) * (k + 1) ≡ k * k + 2 * k + 1
next_square k = simp (add-mul, mul-add, mul-one, one-mul) (omega arith)

pub near : (a n : ℕ) → 0 < n → n * n < a + n → a ≤ n * n + n → Nearest a n
unfolding Nearest
near a zero p h k = absurd (lt_irrefl 0 p)
near a (suc n) p h k =
    let e : 2 * suc n - 1 ≡ 2 * n + 1 = omega arith in
    let next : suc n * suc n ≡ n * n + 2 * n + 1 = simp (suc-mul, mul-suc) (omega arith) in
    (rw e (omega (arith, odd_square n)), omega (arith, odd_square (suc n)))

-- THE PARTS OF A ROOT

abbrev pub low : (m h : ℕ) → ℕ
low m h = (m - h * h) * 2 ^ 31 / (h * 64)

abbrev pub left : (m h : ℕ) → ℕ
left m h = (m - h * h) * 2 ^ 31 % (h * 64)

abbrev pub whole : (m h : ℕ) → ℕ
whole m h = h * 64 * 2 ^ 20 + low m h

square_of_sum : (h b l : ℕ) → (h * b + l) * (h * b + l) ≡ h * h * (b * b) + (l * h * b + l * h * b) + l * l
square_of_sum h b l = simp (add-mul, mul-add, mul_assoc, mul_comm, mul_left_comm, add_assoc, add_comm, add_left_comm)

pub record Known (m h : ℕ) : Type 0 where
  pub h_ge : 2 ^ 26 ≤ h
  pub h_lt : h < 2 ^ 27
  pub divisor : h * 64 % 2 ^ 32 + 2 ^ 32 ≡ h * 64
  pub rest_le : m - h * h ≤ 2 * h
  pub low_le : low m h ≤ 2 ^ 26
  pub left_lt : left m h < h * 64
  pub low_square : low m h * low m h ≤ 2 ^ 52
  pub low_square_lt : low m h * low m h < whole m h
  pub exact : m * 2 ^ 52 + low m h * low m h ≡ whole m h * whole m h + left m h * 2 ^ 21

small_square : (l b : ℕ) → l * l ≤ 2 ^ 52 → 2 ^ 52 ≤ b → l * l < b + l
small_square zero b h k = omega arith
small_square (suc l) b h k = omega arith

pub known : (m h : ℕ) → 2 ^ 52 ≤ m → m < 2 ^ 54 → h * h ≤ m → m < (h + 1) * (h + 1) → Known m h
known m h lo hi below above =
    let large = lt_of_not-le {n = h + 1} {m = 2 ^ 26} (λ g. not-le_of_lt above (le_trans (square_le (h + 1) (2 ^ 26) g) lo)) in
    let h_ge : 2 ^ 26 ≤ h = omega arith in
    let h_lt : h < 2 ^ 27 = lt_of_not-le (λ g. not-le_of_lt hi (le_trans (square_le (2 ^ 27) h g) below)) in
    let rest_le : m - h * h ≤ 2 * h = omega (arith, next_square h) in
    let pos : 0 < h * 64 = omega arith in
    let low_le : low m h ≤ 2 ^ 26 = div-le_of_le-mul (h * 64) (le_trans (mul-le-mul_right (2 ^ 31) rest_le) (omega arith)) in
    let parted : low m h * (h * 64) + left m h ≡ (m - h * h) * 2 ^ 31 = div-add-mod' ((m - h * h) * 2 ^ 31) (h * 64) in
    let regrouped : low m h * (h * 64) ≡ low m h * h * 64 = sym (mul_assoc (low m h) h 64) in
    let same : h * 64 * 2 ^ 20 ≡ h * 2 ^ 26 = omega arith in
    let square : low m h * low m h ≤ 2 ^ 52 = square_le (low m h) (2 ^ 26) low_le in
    record {
      h_ge = h_ge;
      h_lt = h_lt;
      divisor = omega arith;
      rest_le = rest_le;
      low_le = low_le;
      left_lt = mod-lt ((m - h * h) * 2 ^ 31) pos;
      low_square = square;
      low_square_lt = small_square (low m h) (h * 64 * 2 ^ 20) square (omega arith);
      exact = rw same (omega (arith, square_of_sum h (2 ^ 26) (low m h)));
    }

-- WHERE WHAT IS LEFT DECIDES

pub stays : (m h : ℕ) → Known m h → left m h * 2 ^ 21 ≤ low m h * low m h + whole m h → Nearest (m * 2 ^ 52) (whole m h)
stays m h k t = near (m * 2 ^ 52) (whole m h) (omega arith) (omega arith) (omega arith)

pub goes_up : (m h : ℕ) → Known m h → low m h * low m h + whole m h < left m h * 2 ^ 21 → Nearest (m * 2 ^ 52) (whole m h + 1)
goes_up m h k t =
    let e = next_square (whole m h) in
    near (m * 2 ^ 52) (whole m h + 1) (omega arith) (omega arith) (omega arith)
