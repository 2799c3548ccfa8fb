-- The orders of n axes, numbered lexicographically, and the order of the axes by falling size.
use Rattle.std.specs.Prelude.{ℕ, zero, suc, ◌+◌, ◌-◌, ◌*◌, ◌/◌, ◌%◌, ◌<◌, ◌≡◌, ◌⊎◌, cond, ltb, eqb}
use Rattle.common.specs.Factorials.{factorial}

-- the axis with number a among the axes other than c; and back
unfoldable pub skip : (c a : ℕ) → ℕ
skip c a = cond (ltb a c) a (a + 1)

unfoldable pub unskip : (c a : ℕ) → ℕ
unskip c a = cond (ltb c a) (a - 1) a

-- axis number m of order number k: k / (n - 1)! comes first, then the others in order number k % (n - 1)!
unfoldable pub axis : (n k m : ℕ) → ℕ
axis zero k m = 0
axis (suc n) k zero = k / factorial n
axis (suc n) k (suc m) = skip (k / factorial n) (axis n (k % factorial n) m)

-- the place m at which order number k has the axis a
unfoldable pub place : (n k a : ℕ) → ℕ
place zero k a = 0
place (suc n) k a = cond (eqb a (k / factorial n)) 0 (suc (place n (k % factorial n) (unskip (k / factorial n) a)))

-- the axis of the largest size, the first of equals
unfoldable pub largest : (n : ℕ) → (ℕ → ℕ) → ℕ
largest zero s = 0
largest (suc n) s = cond (ltb (s (largest n s)) (s n)) n (largest n s)

-- the number of the order by falling size, equals by axis number
unfoldable pub axis_order : (n : ℕ) → (ℕ → ℕ) → ℕ
axis_order zero s = 0
axis_order (suc n) s = largest (suc n) s * factorial n + axis_order n (λ a. s (skip (largest (suc n) s) a))

-- the sizes in falling order: the m-th largest
unfoldable pub sorted : (n : ℕ) → (ℕ → ℕ) → (ℕ → ℕ)
sorted n s m = s (axis n (axis_order n s) m)

-- WHAT THE TWO NUMBERINGS MEAN; proofs/Orders.antt has `falls` and `lexicographic`

-- by falling size, equals by axis number: axis a comes before axis b
abbrev pub Before : (sizes : ℕ → ℕ) (a b : ℕ) → Type 0
Before s a b = (s b < s a) ⊎ ((s a ≡ s b) × (a < b))

-- lexicographically: order j comes before order k, by the first axis at which they differ
pub record Earlier (n j k : ℕ) : Type 0 where
  pub at : ℕ
  pub on : at < n
  pub same : (m : ℕ) → m < at → axis n j m ≡ axis n k m
  pub less : axis n j at < axis n k at
