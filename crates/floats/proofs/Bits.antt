-- Equal sizes are equal bits but for the sign, and the other way round. Assumes nothing.
use mathlib.Core.Path.{◌≡◌, sym, ap, ◌∙◌}
use mathlib.Core.Bool.{true, false, not}
use Prim.Native.Nat.{ℕ, ◌+◌, ◌*◌, ◌%◌, ◌<◌}
use native.Mathlib.Nat.{add-mod_left, mod-eq_of_lt}
use native.Mathlib.Omega.{arith}
use lib.Dec.{T}
use lib.IntN.{ℤ}
use lib.Ieee.{Float, nan, inf, fin, Format, neg, top, fits, is_nan, to_bits, of_bits}
use lib.Ieee.Fits.{neg-fits}
use lib.Ieee.Bits.{of_bits-to_bits, to_bits-lt}
use Rattle.floats.specs.Signs.{magnitude}
use Rattle.floats.specs.Sizes.{below}

-- THE SIGN is the pattern's highest bit

raised : (t a b : ℕ) → t + a + b ≡ t + (0 + a + b)
raised t a b = omega arith

fin_bits : (f : Format) (m : ℕ) (e : ℤ) → to_bits f (fin true m e) ≡ top f + to_bits f (fin false m e)
unfolding to_bits
fin_bits f m e = raised (top f) _ _

inf_bits : (f : Format) → to_bits f (inf true) ≡ top f + to_bits f (inf false)
unfolding to_bits
inf_bits f = ap (λ (a : ℕ). top f + a) (sym (zero_first _))
  where
    zero_first : (a : ℕ) → 0 + a ≡ a
    zero_first a = omega arith

-- n is the pattern with the sign clear, m the one with it set
folded : (t n m : ℕ) → m ≡ t + n → m < 2 * t → (n ≡ n % t) × (n ≡ m % t)
folded t n m e h =
    let l : n < t = omega arith in
    (sym (mod-eq_of_lt l), rw e (sym (add-mod_left t n ∙ mod-eq_of_lt l)))

-- A MAGNITUDE has the bits below the sign, and no others

pub magnitude_bits : (f : Format) (x : Float) → T (fits f x) → T (not (is_nan x)) → to_bits f (magnitude x) ≡ below f x
unfolding magnitude is_nan neg
magnitude_bits f nan h k = absurd k
magnitude_bits f (inf true) h k = (folded (top f) _ _ (inf_bits f) (to_bits-lt f (inf true) h)).1
magnitude_bits f (inf false) h k = (folded (top f) _ _ (inf_bits f) (to_bits-lt f (inf true) (neg-fits f (inf false) h))).0
magnitude_bits f (fin true m e) h k = (folded (top f) _ _ (fin_bits f m e) (to_bits-lt f (fin true m e) h)).1
magnitude_bits f (fin false m e) h k =
    (folded (top f) _ _ (fin_bits f m e) (to_bits-lt f (fin true m e) (neg-fits f (fin false m e) h))).0

magnitude_fits : (f : Format) (x : Float) → T (fits f x) → T (fits f (magnitude x))
unfolding magnitude neg
magnitude_fits f nan h = h
magnitude_fits f (inf true) h = neg-fits f (inf true) h
magnitude_fits f (inf false) h = h
magnitude_fits f (fin true m e) h = neg-fits f (fin true m e) h
magnitude_fits f (fin false m e) h = h

module _ (f : Format) (x y : Float) (fx : T (fits f x)) (fy : T (fits f y)) (nx : T (not (is_nan x))) (ny : T (not (is_nan y))) where
  pub equal_bits : magnitude x ≡ magnitude y → below f x ≡ below f y
  equal_bits e = sym (magnitude_bits f x fx nx) ∙ ap (to_bits f) e ∙ magnitude_bits f y fy ny

  pub equal_magnitudes : below f x ≡ below f y → magnitude x ≡ magnitude y
  equal_magnitudes e =
      let same : to_bits f (magnitude x) ≡ to_bits f (magnitude y) = magnitude_bits f x fx nx ∙ e ∙ sym (magnitude_bits f y fy ny) in
      sym (of_bits-to_bits f (magnitude x) (magnitude_fits f x fx)) ∙ ap (of_bits f) same
      ∙ of_bits-to_bits f (magnitude y) (magnitude_fits f y fy)
