-- The size of a float: at most a border, where the float lies between that and its negation. Assumes nothing.
use mathlib.Core.Path.{◌≡◌, refl, sym, ap, ◌∙◌}
use mathlib.Core.Bool.{Bool, true, false, ◌&&◌}
use Prim.Native.Nat.{ℕ, zero, suc, ◌+◌, ◌*◌, ◌<◌}
use native.Mathlib.Nat.{zero-mul, mul-pos, zero-lt-suc}
use native.Mathlib.Omega.{arith}
use lib.Dec.{eqb}
use lib.IntN.{ℤ}
use lib.Ieee.{Float, nan, inf, fin, up, down, lt, eq, le, neg, of_bits, of_fields, odd}
use lib.Ieee.Fits.{up_pos, down_pos}
use borrow.Author.Tests.{lt-ltb, le-ltb, eq-eqb, ne_eqb}
use Rattle.common.specs.Floats.{size}
use Rattle.common.proofs.Cases.{by_eq}

-- SIGNS: what is not negative keeps its sign, and so does -0.0

no_number : size nan ≡ nan
unfolding size lt
no_number = refl

endless : (s : Bool) → size (inf s) ≡ inf false
unfolding size lt neg of_bits of_fields odd
endless true = refl
endless false = refl

plain : (m : ℕ) (e : ℤ) → size (fin false m e) ≡ fin false m e
unfolding size lt of_bits of_fields odd
plain m e = let z : 0 * 1 * down e ≡ 0 = zero-mul (down e) in rw (le-ltb (m * up e * 1) (0 * 1 * down e) (omega arith))

turned : (m : ℕ) (e : ℤ) → size (fin true (suc m) e) ≡ fin false (suc m) e
unfolding size lt neg of_bits of_fields odd
turned m e =
    let some : 0 < suc m * up e = mul-pos (zero-lt-suc m) (up_pos e) in
    rw (lt-ltb 0 (suc m * up e * 1 + 0 * 1 * down e) (omega arith))

nothing : (e : ℤ) → size (fin true 0 e) ≡ fin true 0 e
unfolding size lt neg of_bits of_fields odd
nothing e =
    let z : 0 * up e ≡ 0 = zero-mul (up e) in
    let z' : 0 * 1 * down e ≡ 0 = zero-mul (down e) in
    rw (le-ltb 0 (0 * up e * 1 + 0 * 1 * down e) (omega arith))

-- BETWEEN a border and its negation

same_test : (a b : ℕ) → eqb a b ≡ eqb b a
same_test a b = by_eq a b (λ e t. rw (t, eq-eqb b a (sym e))) (λ d t. rw (t, ne_eqb b a (λ e. d (sym e))))

both : (t : Bool) → t && true ≡ t
both true = refl
both false = refl

module _ (n : ℕ) (d : ℤ) (some : 0 < n) where
  -- the border, brought over the scale of a float with exponent e
  border_pos : (e : ℤ) → 0 < n * up d * down e
  border_pos e = mul-pos (mul-pos some (up_pos d)) (down_pos e)

  -- a negative float lies below the border, and the border's negation below one that is not negative
  low : (m : ℕ) (e : ℤ) → lt (fin true n d) (fin false m e) ≡ true
  unfolding lt
  low m e = let p = border_pos e in lt-ltb 0 (n * up d * down e + m * up e * down d) (omega arith)

  high : (m : ℕ) (e : ℤ) → lt (fin true m e) (fin false n d) ≡ true
  unfolding lt
  high m e = let p = border_pos e in lt-ltb 0 (m * up e * down d + n * up d * down e) (omega arith)

  above : (e : ℤ) → lt (fin true n d) (fin true 0 e) ≡ true
  unfolding lt
  above e =
      let p = border_pos e in
      let z : 0 * up e * down d ≡ 0 = ap (λ (k : ℕ). k * down d) (zero-mul (up e)) ∙ zero-mul (down d) in
      lt-ltb (0 * up e * down d) (n * up d * down e) (omega arith)

  -- two negative floats, and the same two without their signs
  mirrored : (m : ℕ) (e : ℤ) → le (fin true n d) (fin true m e) ≡ le (fin false m e) (fin false n d)
  unfolding le lt eq
  mirrored m e = rw (same_test (n * up d * down e) (m * up e * down d))

  pub size_between : (x : Float) → (le (fin true n d) x && le x (fin false n d)) ≡ le (size x) (fin false n d)
  unfolding le lt eq
  size_between nan = rw no_number
  size_between (inf true) = rw (endless true)
  size_between (inf false) = rw (endless false)
  size_between (fin false m e) = rw (plain m e, low m e)
  size_between (fin true zero e) = rw (nothing e, above e, high 0 e)
  size_between (fin true (suc m) e) = rw (turned m e, ← mirrored (suc m) e, high (suc m) e) (both (le (fin true n d) (fin true (suc m) e)))
