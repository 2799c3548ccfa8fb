-- Sums of squares from the end: one place more to the front; and they never fall. Assumes nothing.
use mathlib.Core.Path.{◌≡◌, refl, sym, ap, ◌∙◌}
use mathlib.Core.Bool.{true, false, true≢false}
use mathlib.Core.List.{List, [], ◌∷◌, ◌++◌, reverse}
use Prim.Native.Nat.{ℕ, zero, suc, ◌+◌, ◌-◌, ◌<◌, ◌≤◌}
use native.Mathlib.Omega.{arith}
use Rattle.std.specs.List.{fold}
use Rattle.std.proofs.lemmas.List.{reverse-append}
use Rattle.std.proofs.lemmas.List.Sums.{fold-append}
use lib.Dec.{T}
use lib.Ieee.{Float, nan, inf, fin, binary64, of_bits, of_fields, odd, add, lt, fits, is_nan}
use lib.Ieee.Bits.{of_bits-fits}
use lib.Ieee.Fits.{add-fits}
use lib.ListN.{length, get_or, drop}
use lib.Seq.{drop-cons, drop-length}
use Rattle.common.specs.Floats.{plus, times, zero₆₄}
use Rattle.common.proofs.Cases.{by_bool}
use Rattle.common.proofs.Orders.{lt_split}
use Rattle.common.proofs.Rising.{unsigned, square_unsigned, add_unsigned, add_not_below}
use Rattle.choices.specs.Cutoff.{squares, first_below}

-- THEY NEVER FALL

squares_fits : (l : List Float) → T (fits binary64 (squares l))
unfolding squares
squares_fits [] = of_bits-fits binary64 0
squares_fits (x ∷ l) = add-fits binary64 (squares l) (times x x)

zero_unsigned : unsigned zero₆₄ ≡ true
unfolding of_bits of_fields odd
zero_unsigned = refl

squares_unsigned : (l : List Float) → unsigned (squares l) ≡ true
unfolding squares
squares_unsigned [] = zero_unsigned
squares_unsigned (x ∷ l) = add_unsigned binary64 (squares l) (times x x) (squares_unsigned l) (square_unsigned binary64 x)

-- a NaN stays
nan_stays : (s q : Float) → is_nan s ≡ true → (b : Float) → lt (plus s q) b ≡ false
unfolding is_nan add lt
nan_stays nan q h b = refl
nan_stays (inf s) q h b = absurd (true≢false (sym h))
nan_stays (fin s m e) q h b = absurd (true≢false (sym h))

module _ (b : Float) where
  -- a sum that is not below a bound stays so
  never_falls : (x : Float) (l : List Float) → lt (squares l) b ≡ false → lt (squares (x ∷ l)) b ≡ false
  unfolding squares
  never_falls x l h =
      let s = squares l in
      let q = times x x in
      let not-less = add_not_below binary64 s q (squares_fits l) (squares_unsigned l) (square_unsigned binary64 x) in
      by_bool (lt (plus s q) b)
      (λ below. by_bool (is_nan s)
      (λ n. nan_stays s q n b)
      (λ n. absurd (true≢false (sym (lt_split (plus s q) s b n below not-less) ∙ h))))
      (λ above. above)

  above_all : (l : List Float) (i : ℕ) → lt (squares (drop i l)) b ≡ false → lt (squares l) b ≡ false
  above_all l zero h = h
  above_all [] (suc i) h = h
  above_all (x ∷ l) (suc i) h = never_falls x l (above_all l i h)

  -- the sums are below the bound from place i + 1 on, and not from place i on: so that is the place
  pub found_after : (l : List Float) (i : ℕ) → i < length l → lt (squares (drop i l)) b ≡ false →
      first_below b (drop (suc i) l) ≡ 0 → first_below b l ≡ suc i
  unfolding first_below
  found_after [] i h above z = absurd (omega arith)
  found_after (x ∷ l) zero h above z = rw (above, z)
  found_after (x ∷ l) (suc i) h above z = rw (above_all (x ∷ l) (suc i) above, found_after l i (omega arith) above z)

-- A FOLD FROM THE END
pub squares_folded : (l : List Float) → fold (λ (s x : Float). plus s (times x x)) zero₆₄ (reverse l) ≡ squares l
unfolding squares
squares_folded [] = refl
squares_folded (x ∷ l) =
    let square = λ (s y : Float). plus s (times y y) in
    let last : reverse (x ∷ l) ≡ reverse l ++ x ∷ [] = reverse-append (x ∷ []) l in
    ap (fold square zero₆₄) last ∙ fold-append square zero₆₄ (reverse l) (x ∷ []) ∙ ap (λ (s : Float). square s x) (squares_folded l)

-- ONE PLACE MORE TO THE FRONT

-- none yet
pub squares_none : (l : List Float) → zero₆₄ ≡ squares (drop (length l) l)
unfolding squares
squares_none l = rw drop-length

pub first_none : (b : Float) (l : List Float) → first_below b (drop (length l) l) ≡ 0
unfolding first_below
first_none b l = rw drop-length

module _ (l : List Float) (i : ℕ) (some : 0 < i) (most : i ≤ length l) where
  -- the list from place i - 1 on
  tail : drop (i - 1) l ≡ get_or l (i - 1) nan ∷ drop i l
  tail =
      let next : suc (i - 1) ≡ i = omega arith in
      rw next at (drop-cons l (i - 1) nan (omega arith))

  pub squares_more : {x : Float} → x ≡ squares (drop i l) →
      plus x (times (get_or l (i - 1) nan) (get_or l (i - 1) nan)) ≡ squares (drop (i - 1) l)
  unfolding squares
  squares_more e = rw (e, tail)

  module _ (b : Float) {x : Float} (e : x ≡ squares (drop (i - 1) l)) where
    -- the sum is below the bound here
    pub first_here : lt x b ≡ true → first_below b (drop (i - 1) l) ≡ 0
    unfolding first_below
    first_here t =
        let below : lt (squares (get_or l (i - 1) nan ∷ drop i l)) b ≡ true = rw (e, tail) at t in
        rw (tail, below)

    -- or it is not
    pub first_after : lt x b ≡ false → first_below b (drop i l) ≡ 0 → i - 1 + 1 ≡ first_below b l
    first_after t z =
        let next : suc (i - 1) ≡ i = omega arith in
        let above : lt (squares (drop (i - 1) l)) b ≡ false = rw e at t in
        let here : i - 1 + 1 ≡ suc (i - 1) = omega arith in
        here ∙ sym (found_after b l (i - 1) (omega arith) above (rw next z))
