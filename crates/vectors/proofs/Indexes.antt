-- What a vector's index means: among all vectors with entries from -3 to 3, the first axis is slowest. Assumes nothing.
use mathlib.Core.Path.{◌≡◌, refl, sym, ap, ◌∙◌}
use Prim.Native.Nat.{ℕ, suc, ◌+◌, ◌^◌, ◌<◌, ◌≤◌}
use native.Mathlib.Omega.{arith}
use lib.IntN.{ℤ, pos, nat_abs, ◌+ℤ◌, +ℤ_assoc, +ℤ_comm, pos-+ℤ-pos}
use Rattle.common.specs.Digits.{Below}
use Rattle.common.proofs.Digits.{from_digits_below, from_digits_rises}
use Rattle.vectors.specs.Vectors.{index}
use Rattle.vectors.proofs.Held.{by_entry}

-- three more than an entry is a digit in base 7
digit_of : (e : ℤ) → nat_abs e ≤ 3 → pos (nat_abs (e +ℤ pos 3)) ≡ e +ℤ pos 3
digit_of = by_entry (λ e. pos (nat_abs (e +ℤ pos 3)) ≡ e +ℤ pos 3) refl refl refl refl refl refl refl

digit_below_7 : (e : ℤ) → nat_abs e ≤ 3 → nat_abs (e +ℤ pos 3) < 7
digit_below_7 =
    by_entry (λ e. nat_abs (e +ℤ pos 3) < 7) (omega arith) (omega arith) (omega arith) (omega arith) (omega arith) (omega arith)
    (omega arith)

-- a larger entry has a larger digit
digit_rises : (e : ℤ) (d : ℕ) → nat_abs e ≤ 3 → nat_abs (e +ℤ pos (suc d) +ℤ pos 3) ≡ nat_abs (e +ℤ pos 3) + suc d
digit_rises e d h =
    ap nat_abs
    (+ℤ_assoc e (pos (suc d)) (pos 3) ∙ ap (λ (x : ℤ). e +ℤ x) (+ℤ_comm (pos (suc d)) (pos 3)) ∙ sym (+ℤ_assoc e (pos 3) (pos (suc d)))
    ∙ ap (λ (x : ℤ). x +ℤ pos (suc d)) (sym (digit_of e h)) ∙ pos-+ℤ-pos (nat_abs (e +ℤ pos 3)) (suc d))

module _ (D : ℕ) (v : ℕ → ℤ) (small : (a : ℕ) → a < D → nat_abs (v a) ≤ 3) where
  digits_below : Below 7 D (λ a. nat_abs (v a +ℤ pos 3))
  digits_below a l = digit_below_7 (v a) (small a l)

  pub index_below : index D v < 7 ^ D
  unfolding index
  index_below = from_digits_below 7 D _ digits_below

  -- w agrees with v before axis m, and exceeds it there
  pub index_rises : (w : ℕ → ℤ) (m d : ℕ) → m < D → ((a : ℕ) → a < m → v a ≡ w a) → w m ≡ v m +ℤ pos (suc d) → index D v < index D w
  unfolding index
  index_rises w m d l same more =
      from_digits_rises 7 D m _ _ digits_below l (λ a h. rw (same a h)) (rw (more, digit_rises (v m) d (small m l)) (omega arith))
