-- A pass along an axis takes a half of the operators, and the passes alternate two buffers. Assumes nothing.
use mathlib.Core.Path.{◌≡◌, refl, ap, ◌∙◌}
use mathlib.Core.Bool.{Bool}
use mathlib.Core.List.{List}
use Prim.Native.Nat.{ℕ, zero, suc, ◌+◌, ◌-◌, ◌*◌, ◌/◌, ◌%◌, ◌^◌, ◌<◌, ◌≤◌}
use native.Mathlib.Nat.{add-mul, one-mul, zero-mul, mul_comm, mul_assoc, mod-lt}
use native.Mathlib.Omega.{arith}
use lib.Arith.{digits_lt}
use lib.Ieee.{Float, nan}
use lib.ListN.{length, get_or, take, drop}
use Rattle.common.specs.Lists.{stretch}
use Rattle.common.specs.Refusals.{Shape}
use Rattle.common.specs.Matrices.{matrix}
use Rattle.common.proofs.Fill.{part_read, fill_all, listed}
use Rattle.common.proofs.Limits.{power_rows}
use Rattle.passes.specs.Passes.{passed, directed}
use Rattle.passes.proofs.Strips.{passed_cong, directed_cong}
use Rattle.transfer.specs.Tensor.{operator_half, along, ends}

-- THE BLOCK of the operators: the lower starts at 0, and the upper past p columns of p entries

block_start : (half q : ℕ) → half < 2 → half * q ≤ q
block_start zero q h = let e : 0 * q ≡ 0 = zero-mul q in omega arith
block_start (suc zero) q h = let e : 1 * q ≡ q = one-mul q in omega arith
block_start (suc (suc half)) q h = absurd (omega arith)

module _ (p half : ℕ) (l : List Float) (two : half < 2) (e : length l ≡ (p + p) * p) where
  pub block_fits : half * (p * p) + p * p ≤ length l
  block_fits = let h = block_start half (p * p) two in let both : (p + p) * p ≡ p * p + p * p = add-mul p p p in omega arith

  -- its entries, in the part that is handed on
  pub block_entry : (end r s : ℕ) → end ≡ half * (p * p) + p * p → r < p → s < p →
      matrix p (take (end - half * (p * p)) (drop (half * (p * p)) l)) r s ≡ matrix p l r (half * p + s)
  block_entry end r s h b b' =
      let place : half * (p * p) + (s * p + r) ≡ (half * p + s) * p + r = rw (add-mul, mul_assoc) (omega arith) in
      part_read (half * (p * p)) end (p * p) l (s * p + r) nan h (digits_lt b' b) ∙ ap (λ (k : ℕ). get_or l k nan) place

-- the pass along an axis, over the part of the operators that is handed on
pub along_block : (p width child axis half end : ℕ) (transpose : Bool) (operators values : List Float) → half ≡ child / 2 ^ axis % 2 →
    end ≡ half * (p * p) + p * p → length operators ≡ (p + p) * p →
    passed p width (matrix p values) (directed transpose (matrix p (take (end - half * (p * p)) (drop (half * (p * p)) operators)))) ≡
    along p width child transpose operators axis values
unfolding along operator_half
along_block p width child axis half end transpose operators values e e' long =
    let two : half < 2 = rw e (mod-lt (child / 2 ^ axis) (omega arith)) in
    passed_cong p width (matrix p values) _ _
    (directed_cong transpose _ _ p (λ r s b b'. block_entry p half operators two long end r s e' b b'
    ∙ ap (λ (n : ℕ). matrix p operators r (n * p + s)) e))

-- THE BUFFERS after the passes of one, two and three axes, each of width w

module _ (pass : ℕ → ℕ → List Float → List Float) (D w v : ℕ) (wide : w ≡ v) (first second : List Float) where
  pub axes_one : (s : List Float) → D ≡ 1 → s ≡ pass w (D - 1) first → (first, s) ≡ ends (pass v) D first second
  unfolding ends
  axes_one s e h = rw (h, wide, e)

  pub axes_two : (f s : List Float) → D ≡ 2 → s ≡ pass w (D - 1) first → f ≡ pass w (D - 2) s → (f, s) ≡ ends (pass v) D first second
  unfolding ends
  axes_two f s e hs hf = rw (hf, hs, wide, e)

  pub axes_three : (f s t : List Float) → D ≡ 3 → s ≡ pass w (D - 1) first → f ≡ pass w (D - 2) s → t ≡ pass w 0 f →
      (f, t) ≡ ends (pass v) D first second
  unfolding ends
  axes_three f s t e hs hf ht = rw (ht, hf, hs, wide, e)

-- as p columns and p ^ (D - 1) rows
as_columns : (p D : ℕ) → 1 ≤ D → p ^ D ≡ p * p ^ (D - 1)
as_columns p D l = power_rows p D l ∙ mul_comm (p ^ (D - 1)) p

-- what a pass along an axis asks for, where both buffers have p ^ D entries
pub pass_ready : (D p w axis o v t : ℕ) → Shape D p → o ≡ (p + p) * p → w ≡ p ^ (D - 1) → axis ≤ 2 → v ≡ p ^ D → t ≡ p ^ D →
    (p ≤ 16) × (axis ≤ 2) × (o ≡ (p + p) * p) × (v ≡ w * p) × (t ≡ p * w)
pass_ready D p w axis o v t s ho hw ha hv ht =
    (s.order_most, ha, ho, rw hw (hv ∙ power_rows p D s.dimension_least), rw hw (ht ∙ as_columns p D s.dimension_least))

-- a list copied over another of its length
pub copied : (l over : List Float) → length over ≡ length l → stretch 0 (length l) (λ i. get_or l i nan) over ≡ l
copied l over h = fill_all (length l) (λ i. get_or l i nan) over h ∙ listed l (length l) nan refl
