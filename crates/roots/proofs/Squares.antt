-- Exact squares give their root: were the rounded root another value, √x would lie on the wrong side of the middle between the two.
-- Assumes nothing.
use mathlib.Core.Path.{◌≡◌, sym, ap, ◌∙◌}
use mathlib.Core.Bool.{true, false}
use Prim.Native.Nat.{ℕ, zero, suc, ◌+◌, ◌*◌, ◌^◌, ◌≤◌, ◌<◌}
use native.Mathlib.Nat.{lt_irrefl, mul_right_comm, mul-mul-mul_comm}
use native.Mathlib.Nat.{add-mul, mul-add, mul-pos, eq_of_mul-eq-mul_right, lt_trans, le_antisymm, le_of_suc-le-suc, lt_of_not-le}
use native.Mathlib.Omega.{arith}
use lib.Dec.{T}
use lib.Ieee.{Float, nan, inf, fin}
use lib.Ieee.Exact.{HasValue}
use lib.Ieee.Positive.{positive, num, den, den_pos, value→cross, positive_of_value}
use Rattle.roots.specs.Roots.{Rounded, IsRoot}
use Rattle.roots.specs.Values.{root}
use Rattle.roots.specs.Facts.{ExactSquare}
use Rattle.roots.proofs.Only.{same_value}
use Rattle.roots.proofs.Closest.{positive_in_steps, square_lt, closest}
use Rattle.roots.proofs.Values.{root_is_root, root_fits}

-- two fractions of one value
same_fraction : (x : Float) (a c b d : ℕ) → HasValue x false a c → HasValue x false b d → a * d ≡ b * c
same_fraction x a c b d v w =
    let one : a * d * den x ≡ num x * c * d = mul_right_comm a d (den x) ∙ ap (λ (z : ℕ). z * d) (sym (value→cross x a c v)) in
    let other : b * c * den x ≡ num x * d * c = mul_right_comm b c (den x) ∙ ap (λ (z : ℕ). z * c) (sym (value→cross x b d w)) in
    eq_of_mul-eq-mul_right (den x) (den_pos x) (a * d) (b * c) (one ∙ mul_right_comm (num x) c d ∙ sym other)

rounded_of : (x r : Float) → T (positive x) → IsRoot x r → Rounded x r
unfolding IsRoot
rounded_of nan r p h = absurd p
rounded_of (inf s) r p h = absurd p
rounded_of (fin true m e) r p h = absurd p
rounded_of (fin false zero e) r p h = absurd p
rounded_of (fin false (suc m) e) r p h = h

-- the middle between R and Y is no root of Y²
not_below : (R Y : ℕ) → R < Y → 4 * (Y * Y) < (R + Y) * (R + Y) → ⊥
not_below R Y l h =
    let twice : (Y + Y) * (Y + Y) ≡ 4 * (Y * Y) = simp (add-mul, mul-add) (omega arith) in
    lt_irrefl (4 * (Y * Y)) (lt_trans h (omega (arith, twice, square_lt (R + Y) (Y + Y) (omega arith))))

not_above : (R Y : ℕ) → Y < R → (R + Y) * (R + Y) < 4 * (Y * Y) → ⊥
not_above R Y l h =
    let twice : (Y + Y) * (Y + Y) ≡ 4 * (Y * Y) = simp (add-mul, mul-add) (omega arith) in
    lt_irrefl (4 * (Y * Y)) (lt_trans (omega (arith, twice, square_lt (Y + Y) (R + Y) (omega arith))) h)

le_of_not_lt : {a b : ℕ} → (b < a → ⊥) → a ≤ b
le_of_not_lt f = le_of_suc-le-suc (lt_of_not-le f)

pub exact_squares : (x y : Float) (p q : ℕ) → ExactSquare x y p q
exact_squares x y p q fx fy p-pos q-pos vy vx =
    let r : Float = root x in
    let h = rounded_of x r (positive_of_value x (p * p) (q * q) vx (mul-pos p-pos p-pos)) (root_is_root x fx) in
    let s = positive_in_steps y fy (positive_of_value y p q vy p-pos) in
    let X : ℕ = h.a * 4 ^ h.j in
    let R : ℕ = h.n * 2 ^ h.j in
    let Y : ℕ = s.0 * 2 ^ s.1 in
    let in-y : p * 2 ^ 1074 ≡ Y * q = same_fraction y p q Y (2 ^ 1074) vy s.3 in
    let in-x : p * p * 2 ^ 2148 ≡ X * (q * q) = same_fraction x (p * p) (q * q) X (2 ^ 2148) vx h.argument in
    let squared : p * p * 2 ^ 2148 ≡ Y * Y * (q * q) =
    sym (mul-mul-mul_comm p (2 ^ 1074) p (2 ^ 1074)) ∙ ap (λ (z : ℕ). z * z) in-y ∙ mul-mul-mul_comm Y q Y q in
    let X-is : X ≡ Y * Y = eq_of_mul-eq-mul_right (q * q) (mul-pos q-pos q-pos) X (Y * Y) (sym in-x ∙ squared) in
    let sides = rw X-is at (closest x r y X R Y h fy h.argument h.root s.3) in
    let same : R ≡ Y =
    le_antisymm (le_of_not_lt (λ l. not_above R Y l (sides.1 l))) (le_of_not_lt (λ l. not_below R Y l (sides.0 l))) in
    same_value r y R (root_fits x fx) fy h.root (rw same s.3)
