-- The best entry, on from a place by the flags of one word: over one entry, over a word without flags, and stretch after stretch.
-- Assumes nothing.
use mathlib.Core.Path.{◌≡◌, refl, sym, ◌∙◌}
use mathlib.Core.Bool.{Bool, true, false}
use mathlib.Core.List.{List}
use Prim.Native.Nat.{ℕ, zero, suc, ◌+◌, ◌-◌, ◌/◌, ◌%◌, ◌^◌, ◌<◌, ◌≤◌}
use native.Mathlib.Omega.{arith}
use lib.Arith.{le-zero}
use lib.Bits.{bit_and, and_mask}
use lib.Pow.{shr_le}
use lib.Ieee.{Float, nan, lt}
use lib.ListN.{get_or}
use borrow.Author.Tests.{eq-eqb, ne_eqb}
use Rattle.common.specs.Floats.{size}
use Rattle.aca_pivots.specs.declared.search.Best.{Best}
use Rattle.aca_pivots.specs.Flags.{has_bit, is_on}
use Rattle.aca_pivots.specs.Largest.{best}
use Rattle.aca_pivots.specs.Working.{Extended}
use Rattle.aca_pivots.proofs.Largest.{taken, passed, masked}

-- ONE ENTRY is larger and counts, does not count, or is not larger. The code tests its bit at the end of the shifted word.
module _ (l : List Float) (word k : ℕ) {h : Best} {s : Float} (size_is : s ≡ size (get_or l k nan)) where
  pub extended_taken : bit_and (word / 2 ^ (k % 64)) 1 ≡ 1 → lt h.worth s ≡ true →
      Extended l word k (k + 1) h (record { place = k; worth = s })
  extended_taken b t on said held =
      taken l on k held size_is (said k (omega arith) (omega arith) ∙ eq-eqb _ _ (sym (and_mask (word / 2 ^ (k % 64)) 1) ∙ b)) t

  pub extended_masked : (bit_and (word / 2 ^ (k % 64)) 1 ≡ 1 → ⊥) → Extended l word k (k + 1) h h
  extended_masked b on said held =
      masked l on k held size_is (said k (omega arith) (omega arith) ∙ ne_eqb _ _ (λ e. b (and_mask (word / 2 ^ (k % 64)) 1 ∙ e)))

  pub extended_passed : lt h.worth s ≡ false → Extended l word k (k + 1) h h
  extended_passed t on said held = passed l on k held size_is t

-- STRETCHES

pub extended_on : (l : List Float) (word a b c : ℕ) (x y z : Best) → a ≤ b → b ≤ c → Extended l word a b x y → Extended l word b c y z →
    Extended l word a c x z
extended_on l word a b c x y z i j first then on said held =
    then on (λ k u v. said k (omega (arith, u, i)) v) (first on (λ k u v. said k u (omega (arith, v, j))) held)

-- a word without flags leaves the best as it is
no_bit : (j : ℕ) → has_bit 0 j ≡ false
no_bit j = let nothing : 0 / 2 ^ j ≡ 0 = le-zero (shr_le 0 j) in rw nothing

none_counts : (l : List Float) (on : ℕ → Bool) (from n : ℕ) → ((k : ℕ) → from ≤ k → k < from + n → on k ≡ false) →
    best from l on ≡ best (from + n) l on
none_counts l on from zero off = let same : from + 0 ≡ from = omega arith in rw same
none_counts l on from (suc n) off =
    let next : from + n + 1 ≡ from + suc n = omega arith in
    let below = none_counts l on from n (λ k u v. off k u (omega (arith, v))) in
    rw next at (masked l on (from + n) {s = size (get_or l (from + n) nan)} below refl (off (from + n) (omega arith) (omega arith)))

pub extended_none : (l : List Float) (from end : ℕ) (h : Best) → from ≤ end → Extended l 0 from end h h
extended_none l from end h i on said held =
    let to : from + (end - from) ≡ end = omega (arith, i) in
    held ∙ (rw to at (none_counts l on from (end - from) (λ k u v. said k u (omega (arith, v, i)) ∙ no_bit (k % 64))))

-- from the first place of a word on, within it
pub by_word : (l : List Float) (flags : List ℕ) (from end : ℕ) (h found : Best) → from % 64 ≡ 0 → end ≤ from + 64 →
    Extended l (get_or flags (from / 64) 0) from end h found → h ≡ best from l (is_on flags) → found ≡ best end l (is_on flags)
unfolding is_on
by_word l flags from end h found first most more held =
    more (is_on flags) (λ k u v. let word : k / 64 ≡ from / 64 = omega (arith, first, most, u, v) in rw word) held
