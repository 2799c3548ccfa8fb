-- Bits of a word of 64: each is on in the word of all ones, one is taken out, and none stands above what is left of a shift. Assumes
-- nothing.
use mathlib.Core.Path.{◌≡◌, refl, sym, ap, ◌∙◌}
use mathlib.Core.Bool.{Bool, true, false, cond}
use Prim.Native.Nat.{ℕ, ◌+◌, ◌-◌, ◌*◌, ◌/◌, ◌%◌, ◌^◌, ◌<◌, ◌≤◌}
use native.Mathlib.Nat.{one-mul}
use native.Mathlib.Omega.{arith}
use lib.Arith.{le-zero}
use lib.Pow.{shr-shr, shr_le, shl_exact}
use lib.Bits.{bit_and, and_shr, and_mod, and_zero_r, and_mask}
use lib.Dec.{eqb}
use borrow.Author.Tests.{eqb-true}
use Rattle.common.specs.Tests.{each}
use Rattle.common.proofs.Tests.{each_at}
use Rattle.common.proofs.Cases.{by_eq}
use Rattle.aca_pivots.specs.Flags.{has_bit, without_bit}

-- computed at each place
pub all_bits : (j : ℕ) → j < 64 → has_bit (2 ^ 64 - 1) j ≡ true
unfolding each
all_bits = each_at 64 (has_bit (2 ^ 64 - 1)) refl

-- bit j of the word that has every bit but r; computed at each pair of places
abbrev mask_right : (r j : ℕ) → Bool
mask_right r j = eqb ((2 ^ 64 - 1 - 2 ^ r) / 2 ^ j % 2) (cond (eqb j r) 0 1)

mask_bit : (r j : ℕ) → r < 64 → j < 64 → (2 ^ 64 - 1 - 2 ^ r) / 2 ^ j % 2 ≡ cond (eqb j r) 0 1
unfolding each
mask_bit r j a b = eqb-true _ _ (each_at 64 (mask_right r) (each_at 64 (λ r. each 64 (mask_right r)) refl r a) j b)

bit_of_both : (x y j : ℕ) → bit_and x y / 2 ^ j % 2 ≡ bit_and (x / 2 ^ j % 2) (y / 2 ^ j % 2)
bit_of_both x y j = rw (and_shr x y j) (and_mod (x / 2 ^ j) (y / 2 ^ j) 1)

bit_kept : (x : ℕ) → bit_and (x % 2) 1 ≡ x % 2
bit_kept x = let e : x % 2 % 2 ≡ x % 2 = omega arith in and_mask (x % 2) 1 ∙ e

-- one bit is taken out, and the others are as they were
pub bit_without : (x r j : ℕ) → r < 64 → j < 64 → has_bit (without_bit x r) j ≡ cond (eqb j r) false (has_bit x j)
bit_without x r j a b =
    by_eq j r
    (λ _ t. rw (bit_of_both x (2 ^ 64 - 1 - 2 ^ r) j, mask_bit r j a b, t, and_zero_r))
    (λ _ t. rw (bit_of_both x (2 ^ 64 - 1 - 2 ^ r) j, mask_bit r j a b, t, bit_kept (x / 2 ^ j)))

-- where nothing is left of a word shifted by r, it has no bit from r on
pub none_above : (x r j : ℕ) → x / 2 ^ r ≡ 0 → r ≤ j → has_bit x j ≡ false
none_above x r j h l =
    let on : r + (j - r) ≡ j = omega (arith, l) in
    let shifted : x / 2 ^ j ≡ x / 2 ^ r / 2 ^ (j - r) = ap (λ (i : ℕ). x / 2 ^ i) (sym on) ∙ sym (shr-shr x r (j - r)) in
    let nothing : x / 2 ^ j ≡ 0 = shifted ∙ ap (λ (y : ℕ). y / 2 ^ (j - r)) h ∙ le-zero (shr_le 0 (j - r)) in
    rw nothing

-- a one, shifted to its place
pub shifted_one : (r : ℕ) → r < 64 → 1 * 2 ^ r % 2 ^ 64 ≡ 2 ^ r
shifted_one r h = shl_exact {a = 1} 1 r 64 (omega arith) (omega (arith, h)) ∙ one-mul (2 ^ r)
