-- A vector is a whole number for each axis. Its index, its case, whether it is near, and its reference.
use Rattle.std.specs.Prelude.{ℕ, ◌+◌, ◌-◌, ◌*◌, ◌^◌, Bool, cond, ◌&&◌, List, leb, eqb, ℤ, pos, negsuc, nat_abs, ◌+ℤ◌, get_or}
use Rattle.common.specs.Tests.{each, those, count}
use Rattle.common.specs.Digits.{from_digits, digit}
use Rattle.common.specs.Factorials.{factorial}
use Rattle.vectors.specs.Order.{axis_order, sorted}

abbrev pub sizes : (ℕ → ℤ) → (ℕ → ℕ)
sizes v a = nat_abs (v a)

-- its place among all vectors with entries -3 to 3, the first axis slowest; proofs/Indexes.antt has `index_below` and `index_rises`
unfoldable pub index : (D : ℕ) → (ℕ → ℤ) → ℕ
index D v = from_digits 7 D (λ a. nat_abs (v a +ℤ pos 3))

-- 0 for a negative entry, 1 otherwise
abbrev pub sign : ℤ → ℕ
sign (pos n) = 1
sign (negsuc n) = 0

abbrev pub is_negative : ℤ → Bool
is_negative e = eqb (sign e) 0

-- sign case times D! plus order; axis 0 is the sign case's most significant digit
unfoldable pub case : (D : ℕ) → (ℕ → ℤ) → ℕ
case D v = from_digits 2 D (λ a. sign (v a)) * factorial D + axis_order D (sizes v)

-- each of n sizes is at most so large
unfoldable pub at_most : (most n : ℕ) → (ℕ → ℕ) → Bool
at_most most n s = each n (λ a. leb (s a) most)

unfoldable pub near : (D : ℕ) → (ℕ → ℤ) → Bool
near D v = at_most 1 D (sizes v)

-- A reference has entries 0 to 3, not rising, the first at least 2. Number k stands for the vector of its D digits in base 4.
unfoldable pub is_reference : (D k : ℕ) → Bool
is_reference D k = leb 2 (digit 4 D 0 k) && each (D - 1) (λ a. leb (digit 4 D (a + 1) k) (digit 4 D a k))

unfoldable pub references : (D : ℕ) → List ℕ
references D = those (4 ^ D) (is_reference D)

-- entry a of reference number i
unfoldable pub entry : (D i a : ℕ) → ℕ
entry D i a = digit 4 D a (get_or (references D) i 0)

-- as many references come before the one whose entries are the sorted sizes
unfoldable pub far_reference : (D : ℕ) → (sizes : ℕ → ℕ) → ℕ
far_reference D s = count (from_digits 4 D (sorted D s)) (is_reference D)

-- that of a vector, by its sizes; near vectors, whose sizes are at most 1, keep reference 0
unfoldable pub reference_of : (D : ℕ) → (sizes : ℕ → ℕ) → ℕ
reference_of D s = cond (at_most 1 D s) 0 (far_reference D s)

abbrev pub reference : (D : ℕ) → (ℕ → ℤ) → ℕ
reference D v = reference_of D (sizes v)
