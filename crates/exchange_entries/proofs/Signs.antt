-- A whole number with its sign, in 64 bits and as a float. Assumes nothing.
use mathlib.Core.Path.{◌≡◌, refl, ap, ◌∙◌}
use Prim.Native.Nat.{ℕ, zero, suc, ◌-◌, ◌≤◌}
use native.Mathlib.Omega.{arith}
use lib.Dec.{T, le→leb, lt→ltb}
use borrow.Author.Tests.{lt-ltb}
use lib.IntN.{ℤ, pos, neg_ℤ, ◌-ℤ◌}
use lib.Ieee.{in_float, binary64}
use mir.Syntax.{w64}
use mir.Val.{to_z, of_z, SFits}
use mir.Facts.{to_z_pos, to_z-of_z}
use Rattle.exchange_format.specs.Words.{most_size}

module _ (n : ℕ) (h : n ≤ most_size) where
  pub plain_bits : to_z w64 n ≡ pos n
  plain_bits = to_z_pos w64 (omega arith)

  negated : pos 0 -ℤ to_z w64 n ≡ neg_ℤ (pos n)
  negated = rw plain_bits (go n)
    where
      go : (k : ℕ) → pos 0 -ℤ pos k ≡ neg_ℤ (pos k)
      go zero = refl
      go (suc k) = let less : suc k - 1 ≡ k = omega arith in rw (lt-ltb 0 (suc k) (omega arith), less)

  fits : SFits w64 (neg_ℤ (pos n))
  fits = go n h
    where
      go : (k : ℕ) → k ≤ most_size → SFits w64 (neg_ℤ (pos k))
      go zero l = record { sfits = omega arith }
      go (suc k) l = record { sfits = omega arith }

  pub negated_fits : SFits w64 (pos 0 -ℤ to_z w64 n)
  negated_fits = rw negated fits

  pub negated_bits : to_z w64 (of_z w64 (pos 0 -ℤ to_z w64 n)) ≡ neg_ℤ (pos n)
  negated_bits = ap (λ (z : ℤ). to_z w64 (of_z w64 z)) negated ∙ to_z-of_z fits

  pub plain_float : T (in_float binary64 (pos n))
  unfolding in_float
  plain_float = le→leb n most_size h

  pub negated_float : T (in_float binary64 (neg_ℤ (pos n)))
  unfolding in_float
  negated_float = go n h
    where
      go : (k : ℕ) → k ≤ most_size → T (in_float binary64 (neg_ℤ (pos k)))
      go zero l = tt
      go (suc k) l = lt→ltb k most_size l
