-- The meaning of a square root leaves one value: two binary64 that are each a root of x are the same. No tie can occur. Assumes nothing.
use mathlib.Core.Path.{◌≡◌, sym, ap, ◌∙◌, subst}
use mathlib.Core.Bool.{Bool, true, false, cond}
use Prim.Native.Nat.{ℕ, zero, suc, ◌+◌, ◌-◌, ◌*◌, ◌/◌, ◌^◌, ◌≤◌, ◌<◌}
use native.Mathlib.Nat.{le_trans, le_of_lt, le_antisymm, lt_irrefl, lt_of_lt_of_le, lt_of_not-le, le_of_suc-le-suc, mul_assoc}
use native.Mathlib.Nat.{mul-le-mul_left, mul-div_cancel, eq_of_mul-eq-mul_right}
use native.Mathlib.Omega.{arith}
use lib.IntN.{ℤ}
use lib.Dec.{T}
use lib.Pow.{pow-add, pow_mono}
use lib.Ieee.{Float, nan, inf, fin, binary64, size, hid, top, down, fits, of_bits, to_bits}
use lib.Ieee.Bits.{of_bits-to_bits}
use lib.Ieee.Fits.{down_pos}
use lib.Ieee.Exact.{HasValue}
use Rattle.roots.specs.Roots.{Nearest, Rounded, IsRoot}
use Rattle.roots.specs.Facts.{NoTie, OneRoot}
use Rattle.roots.proofs.Newton.{square_le}
use Rattle.roots.proofs.Halves.{odd_square}
use Rattle.roots.proofs.Scales.{four, four_pos}

-- an odd square is not four times a number
pub no_tie : (a n : ℕ) → NoTie a n
no_tie a n e = omega (arith, odd_square n)

-- ONE VALUE OF THE FORMAT has a given size

-- the pattern of the value that is a smallest steps
abbrev pattern_of : ℕ → ℕ
pattern_of a = cond false (top binary64) 0 + (size a - 53) * hid binary64 + a / 2 ^ (size a - 53)

bits_of : (s : Bool) (m : ℕ) (e : ℤ) (a : ℕ) → HasValue (fin s m e) false a (2 ^ 1074) → to_bits binary64 (fin s m e) ≡ pattern_of a
unfolding to_bits
bits_of s m e a h =
    ap (λ (t : Bool). to_bits binary64 (fin t m e)) h.0
    ∙ ap pattern_of (ap (λ (z : ℕ). z / down e) h.1 ∙ mul-div_cancel a (down_pos e))

same_bits : (r r' : Float) (a : ℕ) → HasValue r false a (2 ^ 1074) → HasValue r' false a (2 ^ 1074) → to_bits binary64 r ≡ to_bits binary64 r'
same_bits nan r' a h k = absurd h
same_bits (inf s) r' a h k = absurd h
same_bits (fin s m e) nan a h k = absurd k
same_bits (fin s m e) (inf t) a h k = absurd k
same_bits (fin s m e) (fin t n d) a h k = bits_of s m e a h ∙ sym (bits_of t n d a k)

pub same_value : (r r' : Float) (a : ℕ) → T (fits binary64 r) → T (fits binary64 r') →
    HasValue r false a (2 ^ 1074) → HasValue r' false a (2 ^ 1074) → r ≡ r'
same_value r r' a f f' h k =
    sym (of_bits-to_bits binary64 r f) ∙ ap (of_bits binary64) (same_bits r r' a h k) ∙ of_bits-to_bits binary64 r' f'

-- ONE SIZE is a given value's
pub one_size : (x : Float) (a b c : ℕ) → HasValue x false a c → HasValue x false b c → a ≡ b
one_size nan a b c h k = absurd h
one_size (inf t) a b c h k = absurd h
one_size (fin t m e) a b c h k = eq_of_mul-eq-mul_right (down e) (down_pos e) a b (sym h.1 ∙ k.1)

-- ONE SCALE gives 105 or 106 digits
scale_le : (a b i j : ℕ) → a * 4 ^ i ≡ b * 4 ^ j → 2 ^ 104 ≤ a → b < 2 ^ 106 → i ≤ j
scale_le a b i j e lo hi = le_of_suc-le-suc (lt_of_not-le (λ (g : suc j ≤ i).
    let k : ℕ = i - suc j in
    let i-is : i ≡ suc k + j = omega arith in
    let more : b * 4 ^ j ≡ a * 4 ^ suc k * 4 ^ j =
    sym e ∙ ap (λ (z : ℕ). a * 4 ^ z) i-is ∙ ap (λ (z : ℕ). a * z) (pow-add 4 (suc k) j) ∙ sym (mul_assoc a (4 ^ suc k) (4 ^ j)) in
    let b-is : b ≡ a * 4 ^ suc k = eq_of_mul-eq-mul_right (4 ^ j) (four_pos j) b (a * 4 ^ suc k) more in
    let big : 4 ≤ 4 ^ suc k = rw (four (suc k)) (pow_mono {i = 2} {j = suc k + suc k} (omega arith)) in
    no (a * 4 ^ suc k) b-is (mul-le-mul_left a big)))
  where
    no : (c : ℕ) → b ≡ c → a * 4 ≤ c → ⊥
    no c e h = omega arith

-- ONE WHOLE NUMBER is nearest
nearest_le : (a n m : ℕ) → Nearest a n → Nearest a m → n ≤ m
unfolding Nearest
nearest_le a n m h k = le_of_suc-le-suc (lt_of_not-le (λ (g : suc m ≤ n).
    lt_irrefl (4 * a) (lt_of_lt_of_le k.1 (le_trans (square_le (2 * m + 1) (2 * n - 1) (omega arith)) (le_of_lt h.0)))))

nearest_only : (a n m : ℕ) → Nearest a n → Nearest a m → n ≡ m
nearest_only a n m h k = le_antisymm (nearest_le a n m h k) (nearest_le a m n k h)

-- ONE ROOT
rounded_only : (x r r' : Float) → T (fits binary64 r) → T (fits binary64 r') → Rounded x r → Rounded x r' → r ≡ r'
rounded_only x r r' f f' h k =
    let e = one_size x (h.a * 4 ^ h.j) (k.a * 4 ^ k.j) (2 ^ 2148) h.argument k.argument in
    let j-is : h.j ≡ k.j =
    le_antisymm (scale_le h.a k.a h.j k.j e h.least k.most)
    (scale_le k.a h.a k.j h.j (sym e) k.least h.most) in
    let a-is : h.a ≡ k.a =
    eq_of_mul-eq-mul_right (4 ^ h.j) (four_pos h.j) h.a k.a (e ∙ ap (λ (z : ℕ). k.a * 4 ^ z) (sym j-is)) in
    let n-is : h.n ≡ k.n = nearest_only h.a h.n k.n h.nearest (rw a-is k.nearest) in
    let same : k.n * 2 ^ k.j ≡ h.n * 2 ^ h.j = cc in
    same_value r r' (h.n * 2 ^ h.j) f f' h.root (subst (λ (z : ℕ). HasValue r' false z (2 ^ 1074)) same k.root)

pub root_only : (x r r' : Float) → OneRoot x r r'
unfolding IsRoot
root_only nan r r' f f' h k = h ∙ sym k
root_only (inf true) r r' f f' h k = h ∙ sym k
root_only (inf false) r r' f f' h k = h ∙ sym k
root_only (fin s zero e) r r' f f' h k = h ∙ sym k
root_only (fin true (suc m) e) r r' f f' h k = h ∙ sym k
root_only (fin false (suc m) e) r r' f f' h k = rounded_only (fin false (suc m) e) r r' f f' h k
