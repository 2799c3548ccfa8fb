-- Newton's step for a square root, on whole numbers: a step from any guess above 0 gives a number that is at least the root. And how
-- large the numbers of `floor_root` are. Assumes nothing.
use mathlib.Core.Path.{◌≡◌, refl, sym, ap, subst, ◌∙◌}
use Prim.Native.Nat.{ℕ, zero, suc, ◌+◌, ◌-◌, ◌*◌, ◌/◌, ◌%◌, ◌^◌, ◌≤◌, ◌<◌}
use native.Mathlib.Nat.{le_trans, le_of_eq, le_of_lt, lt_of_lt_of_le, lt-suc_self, zero-lt-suc, not-suc-le-zero, lt_of_not-le}
use native.Mathlib.Nat.{le_dest, le_intro, add_comm, add_assoc, add_left_comm, mul_comm, mul-add, add-mul, two-mul, add-suc}
use native.Mathlib.Nat.{mul-le-mul_left, mul-le-mul_right, mul-le-mul, div-lt_iff_lt-mul, mod-eq_of_lt, mul-pos, mul-div-mul_right}
use native.Mathlib.Decide.{dec_le}
use native.Mathlib.Omega.{arith}
use native.Mathlib.Numerals.{add-one}
use lib.Arith.{add-le_cancel_left}
use lib.Pow.{pow_pos, pow_mono}
use Rattle.roots.specs.Working.{Even}

-- TWICE A PRODUCT is at most the two squares: the mean of two numbers is at least the root of their product

-- for b written a + d: (a + d)² + a² is a * (a + d) twice and d * d more
squares_regrouped : (a d : ℕ) → a * (a + d) + a * (a + d) + d * d ≡ (a + d) * (a + d) + a * a
squares_regrouped a d = simp (mul-add, add-mul, mul_comm, add_assoc, add_comm, add_left_comm) refl

products_le_of_le : (a b : ℕ) → a ≤ b → a * b + a * b ≤ b * b + a * a
products_le_of_le a b h =
    let d : ℕ = (le_dest h).0 in
    subst (λ (x : ℕ). a * x + a * x ≤ x * x + a * a) (le_dest h).1 (le_intro _ (d * d) (squares_regrouped a d))

products_le : (a b : ℕ) → a * b + a * b ≤ b * b + a * a
products_le a b = either (dec_le a b)
  where
    either : Dec (a ≤ b) → a * b + a * b ≤ b * b + a * a
    either (yes h) = products_le_of_le a b h
    either (no f) =
        le_trans (le_of_eq (ap (λ (z : ℕ). z + z) (mul_comm a b)))
        (le_trans (products_le_of_le b a (le_of_lt (lt_of_not-le f))) (le_of_eq (add_comm (a * a) (b * b))))

-- THE STEP. With q for n / r and m for one more than the new guess: n is below the next multiple of r, (q + 1) * r, and r + q is below
-- m twice. So r * r + (q + 1) * r, which is (r + q + 1) * r, is at most m * r twice, and so at most r * r + m * m: n < (q + 1) * r ≤ m * m.
above : (n r q m : ℕ) → n < suc q * r → r + q < m + m → n < m * m
above n r q m Below-next below-twice =
    lt_of_lt_of_le Below-next
    (add-le_cancel_left (r * r)
    (le_trans (le_of_eq (sym (add-mul r (suc q) r) ∙ ap (λ (x : ℕ). x * r) (add-suc r q)))
    (le_trans (mul-le-mul_right r below-twice)
    (le_trans (le_of_eq (add-mul m m r)) (products_le m r)))))

-- one more than the new guess, squared, is above n: the new guess is at least the root, whether or not r was
newton_above : (n r : ℕ) → zero < r → n < ((r + n / r) / 2 + 1) * ((r + n / r) / 2 + 1)
newton_above n r hr =
    let g : ℕ = (r + n / r) / 2 in
    let twice : suc g * 2 ≡ suc g + suc g = mul_comm (suc g) 2 ∙ two-mul (suc g) in
    subst (λ (x : ℕ). n < x * x) (sym (add-one g))
    (above n r (n / r) (suc g)
    ((div-lt_iff_lt-mul hr).0 (lt-suc_self (n / r)))
    (lt_of_lt_of_le ((div-lt_iff_lt-mul (zero-lt-suc 1)).0 (lt-suc_self g)) (le_of_eq twice)))

-- GOING DOWN

-- a number whose square is above another is above 0
pub square_pos : (n r : ℕ) → n < r * r → zero < r
square_pos n zero h = absurd (not-suc-le-zero h)
square_pos n (suc k) h = zero-lt-suc k

-- one less than a number whose square is above m is at least the root
pub one_less : (m r : ℕ) → m < r * r → m < (r - 1 + 1) * (r - 1 + 1)
one_less m r h =
    let p = square_pos m r h in
    let e : r - 1 + 1 ≡ r = omega arith in
    rw e h

pub square_le : (r b : ℕ) → r ≤ b → r * r ≤ b * b
square_le r b h = mul-le-mul h h

-- THE DIGITS AT AN EVEN SCALE

pub record Evened (m : ℕ) : Type 0 where
  pub low : 2 ^ 52 ≤ m
  pub high : m + 2 ≤ 2 ^ 54
  pub cut : m % 2 ^ 64 ≡ m

pub shifted_by : (d p : ℕ) → p < 2 → 2 ^ 52 ≤ d → d < 2 ^ 53 → Evened (d * 2 ^ p)
shifted_by d zero h lo hi = record { low = omega arith; high = omega arith; cut = mod-eq_of_lt (omega arith) }
shifted_by d (suc zero) h lo hi = record { low = omega arith; high = omega arith; cut = mod-eq_of_lt (omega arith) }
shifted_by d (suc (suc p)) h lo hi = absurd (no p h)
  where
    no : (p : ℕ) → suc (suc p) < 2 → ⊥
    no p h = omega arith

pub evened_of : (m d p : ℕ) → Even m d p → Evened m
evened_of m d p e = subst Evened (sym e.is) (shifted_by d p e.bit e.low e.high)

-- THE NUMBERS OF THE STEP: the guess at the size of m, and the quotient
pub record Step (m d p g : ℕ) : Type 0 where
  pub cut : (g * 2 ^ p) % 2 ^ 64 ≡ g * 2 ^ p
  pub guess_lt : g * 2 ^ p < 2 ^ 29
  pub quotient_lt : d / g < 2 ^ 29
  pub above : m < ((g * 2 ^ p + d / g) / 2 + 1) * ((g * 2 ^ p + d / g) / 2 + 1)

pub step : (m d p g : ℕ) → Even m d p → 2 ^ 24 ≤ g → g < 2 ^ 28 → Step m d p g
step m d p g e lo hi =
    let two : 2 ^ p ≤ 2 = pow_mono {j = 1} (let b = e.bit in omega arith) in
    let product : g * 2 ^ p ≤ g * 2 = mul-le-mul_left g two in
    let guess_lt : g * 2 ^ p < 2 ^ 29 = omega arith in
    let pos : 0 < g = omega arith in
    let room : d < 2 ^ 29 * g = lt_of_lt_of_le e.high (mul-le-mul_left (2 ^ 29) lo) in
    let same : m / (g * 2 ^ p) ≡ d / g = ap (λ (z : ℕ). z / (g * 2 ^ p)) e.is ∙ mul-div-mul_right d g (pow_pos p) in
    record {
      cut = mod-eq_of_lt (omega arith);
      guess_lt = guess_lt;
      quotient_lt = (div-lt_iff_lt-mul pos).1 room;
      above =
          subst (λ (q : ℕ). m < ((g * 2 ^ p + q) / 2 + 1) * ((g * 2 ^ p + q) / 2 + 1)) same
          (newton_above m (g * 2 ^ p) (mul-pos pos (pow_pos p)));
    }
