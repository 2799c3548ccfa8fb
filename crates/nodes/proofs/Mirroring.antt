-- The loop that makes the mirror-exact nodes from the Rust's, and what it leaves. Assumes nothing.
use mathlib.Core.Path.{◌≡◌, sym, ap, ◌∙◌}
use mathlib.Core.List.{List}
use Prim.Native.Nat.{ℕ, ◌+◌, ◌-◌, ◌/◌, ◌<◌, ◌≤◌}
use native.Mathlib.Nat.{zero-add}
use native.Mathlib.Omega.{arith}
use lib.ListN.{length, set, get_or}
use lib.Seq.{ext_get_or}
use lib.Ieee.{Float, nan, neg}
use Rattle.common.specs.Floats.{zero₆₄}
use Rattle.common.specs.Lists.{tabulate, stretch}
use Rattle.common.proofs.Cases.{by_lt}
use Rattle.common.proofs.Fill.{length_tabulate, get_d_tabulate, stretch_length, stretch_more, fill_read, fill_after, Filling, filling_done}
use Rattle.node_rows.specs.Rows.{node}
use Rattle.nodes.specs.Sets.{mirrored}
use Rattle.nodes.proofs.Mirror.{mirrored_upper, mirrored_lower, mirrored_middle}

module _ (p : ℕ) (before : List Float) (given : before ≡ tabulate p (node p)) where
  given_length : length before ≡ p
  given_length = rw given (length_tabulate p (node p))

  given_at : (i : ℕ) → i < p → get_or before i nan ≡ node p i
  given_at i h = rw given (get_d_tabulate p (node p) i nan h)

  -- what is read for node i, at the reversed index, is still the Rust's
  pub mirror_next : (now : List Float) (i at : ℕ) → Filling 0 (p / 2) (mirrored p) before now i → i < p / 2 → at ≡ p - 1 - i →
      neg (get_or now at nan) ≡ mirrored p i
  mirror_next now i at h l e =
      let place : at ≡ i + (p - 1 - i - i) = omega arith in
      let fits : i ≤ length before = omega (arith, given_length) in
      let read : get_or (stretch 0 i (mirrored p) before) at nan ≡ get_or before at nan =
      rw place (fill_after i (mirrored p) before (p - 1 - i - i) nan fits) in
      rw (h.made, read, e, given_at (p - 1 - i) (omega arith), mirrored_lower p i (omega arith))

  -- where the first n are mirrored, and they reach past the middle, all are
  rest : (n : ℕ) → n ≤ p → p ≤ n + n → stretch 0 n (mirrored p) before ≡ tabulate p (mirrored p)
  rest n b g =
      let fits : n ≤ length before = omega (arith, given_length) in
      let long : length (stretch 0 n (mirrored p) before) ≡ p = stretch_length 0 (mirrored p) before n (omega arith) ∙ given_length in
      ext_get_or nan _ _ (long ∙ sym (length_tabulate p (mirrored p)))
      (λ k l. let l' : k < p = rw long at l in
      rw (get_d_tabulate p (mirrored p) k nan l')
      (by_lt k n
      (λ a _. fill_read n (mirrored p) before k nan a)
      (λ a _. let place : k ≡ n + (k - n) = omega arith in
      ap (λ (j : ℕ). get_or (stretch 0 n (mirrored p) before) j nan) place ∙ fill_after n (mirrored p) before (k - n) nan fits ∙
      ap (λ (j : ℕ). get_or before j nan) (sym place) ∙ given_at k l' ∙ sym (mirrored_upper p k (omega arith)))))

  module _ (now : List Float) (i : ℕ) (h : Filling 0 (p / 2) (mirrored p) before now i) (l : p / 2 ≤ i) where
    pub mirror_even : p ≤ p / 2 + p / 2 → now ≡ tabulate p (mirrored p)
    mirror_even g = filling_done 0 (p / 2) (mirrored p) before now i h l ∙ rest (p / 2) (omega arith) g

    pub mirror_odd : p / 2 + p / 2 < p → set now (p / 2) zero₆₄ ≡ tabulate p (mirrored p)
    mirror_odd g =
        let n = p / 2 in
        let fits : 0 + n < length before = omega (arith, given_length) in
        ap (λ (l : List Float). set l n zero₆₄) (filling_done 0 n (mirrored p) before now i h l)
        ∙ ap (λ (k : ℕ). set (stretch 0 n (mirrored p) before) k zero₆₄) (sym (zero-add n))
        ∙ stretch_more 0 (mirrored p) before n nan zero₆₄ fits (sym (mirrored_middle p n (omega arith)))
        ∙ rest (n + 1) (omega arith) (omega arith)
