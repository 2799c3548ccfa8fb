-- Which way of `square_root` a value takes, by its tests, and what its root then is. Assumes nothing.
use mathlib.Core.Path.{◌≡◌, refl, sym, ap, subst}
use mathlib.Core.Bool.{Bool, true, false, true≢false, false≢true}
use Prim.Native.Nat.{ℕ, zero, suc, ◌+◌, ◌*◌, ◌<◌}
use native.Mathlib.Nat.{zero-mul, mul-pos, zero-lt-suc}
use native.Mathlib.Omega.{arith}
use lib.IntN.{ℤ, pos}
use lib.Dec.{T, ltb, ltb→lt, lt→ltb}
use lib.Ieee.{Float, nan, inf, fin, up, down, lt, le}
use lib.Ieee.Fits.{up_pos}
use lib.Ieee.Positive.{positive, above, above_of_le}
use Rattle.roots.specs.Roots.{Rounded, IsRoot}
use Rattle.roots.specs.Working.{least_normal}

-- +0.0, as the tests compare it
abbrev nought : Float
nought = fin false 0 (pos 0)

pub is : (b : Bool) → b ≡ true → T b
is b e = subst T (sym e) tt

-- A TEST OF SIZES: the sizes that are compared are products, and that of a zero is 0

holds : (a b : ℕ) → ltb a b ≡ true → a < b
holds a b e = ltb→lt a b (is (ltb a b) e)

fails : (a b : ℕ) → ltb a b ≡ false → a < b → ⊥
fails a b e h = subst T e (lt→ltb a b h)

-- the size of a zero, and of another number
none : (e : ℤ) → 0 * up e * 1 ≡ 0
none e = ap (λ (z : ℕ). z * 1) (zero-mul (up e))

some : (m : ℕ) (e : ℤ) → 0 < suc m * up e * 1
some m e = mul-pos (mul-pos (zero-lt-suc m) (up_pos e)) (zero-lt-suc 0)

-- FROM THE LEAST NORMAL NUMBER UP

pub is_normal : (x : Float) → le least_normal x ≡ true → lt x (inf false) ≡ true → T (positive x)
unfolding lt
is_normal x a b = finite x (above_of_le least_normal x tt (is (le least_normal x) a)) b
  where
    finite : (x : Float) → T (above x) → lt x (inf false) ≡ true → T (positive x)
    finite nan h b = absurd h
    finite (inf true) h b = absurd h
    finite (inf false) h b = absurd (false≢true b)
    finite (fin true m e) h b = absurd h
    finite (fin false m e) h b = h

pub of_infinite : (x : Float) → le least_normal x ≡ true → lt x (inf false) ≡ false → IsRoot x x
unfolding lt IsRoot
of_infinite x a b = infinite x (above_of_le least_normal x tt (is (le least_normal x) a)) b
  where
    infinite : (x : Float) → T (above x) → lt x (inf false) ≡ false → IsRoot x x
    infinite nan h b = absurd h
    infinite (inf true) h b = absurd h
    infinite (inf false) h b = refl
    infinite (fin s m e) h b = absurd (true≢false b)

pub of_positive : (x r : Float) → T (positive x) → Rounded x r → IsRoot x r
unfolding IsRoot
of_positive nan r p h = absurd p
of_positive (inf s) r p h = absurd p
of_positive (fin true m e) r p h = absurd p
of_positive (fin false zero e) r p h = absurd p
of_positive (fin false (suc m) e) r p h = h

-- BELOW IT

pub is_subnormal : (x : Float) → le least_normal x ≡ false → lt nought x ≡ true → T (positive x)
unfolding lt le
is_subnormal nan a b = absurd (false≢true b)
is_subnormal (inf true) a b = absurd (false≢true b)
is_subnormal (inf false) a b = absurd (true≢false a)
is_subnormal (fin true m e) a b = absurd (false≢true b)
is_subnormal (fin false zero e) a b = absurd (no (holds (0 * down e) (0 * up e * 1) b))
  where
    no : 0 * down e < 0 * up e * 1 → ⊥
    no h = omega (arith, none e)
is_subnormal (fin false (suc m) e) a b = lt→ltb 0 (suc m) (zero-lt-suc m)

pub of_negative : (x : Float) → lt x nought ≡ true → IsRoot x nan
unfolding lt IsRoot
of_negative nan a = absurd (false≢true a)
of_negative (inf true) a = refl
of_negative (inf false) a = absurd (false≢true a)
of_negative (fin true zero e) a = absurd (no (holds 0 (0 * up e * 1 + 0 * down e) a))
  where
    no : 0 < 0 * up e * 1 + 0 * down e → ⊥
    no h = omega (arith, none e, zero-mul (down e))
of_negative (fin false m e) a = absurd (no (holds (m * up e * 1) (0 * down e) a))
  where
    no : m * up e * 1 < 0 * down e → ⊥
    no h = omega (arith, zero-mul (down e))
of_negative (fin true (suc m) e) a = refl

pub of_zero : (x : Float) → lt nought x ≡ false → lt x nought ≡ false → IsRoot x x
unfolding lt IsRoot
of_zero nan a b = refl
of_zero (inf true) a b = absurd (true≢false b)
of_zero (inf false) a b = absurd (true≢false a)
of_zero (fin s zero e) a b = refl
of_zero (fin true (suc m) e) a b = absurd (fails 0 (suc m * up e * 1 + 0 * down e) b (omega (arith, some m e)))
of_zero (fin false (suc m) e) a b = absurd (fails (0 * down e) (suc m * up e * 1) a (omega (arith, some m e, zero-mul (down e))))
