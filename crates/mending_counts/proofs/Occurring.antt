-- How often a byte stands in a list, part by part. Assumes nothing.
use mathlib.Core.Path.{◌≡◌, ap, ◌∙◌}
use mathlib.Core.Bool.{cond}
use mathlib.Core.List.{List, [], ◌∷◌, ◌++◌}
use Prim.Native.Nat.{ℕ, zero, suc, ◌+◌, ◌*◌, ◌/◌, ◌<◌, ◌≤◌}
use native.Mathlib.Nat.{mul-suc, mul-zero}
use native.Mathlib.Numerals.{add-one}
use native.Mathlib.Omega.{arith}
use lib.Dec.{eqb}
use lib.ListN.{length, get_or, take, drop, length-drop, take-append-drop}
use lib.Seq.{take-add, take-suc, length-take-le, drop-drop}
use Rattle.std.specs.Simd.{first_chunks}
use borrow.Author.Tests.{eq-eqb, ne_eqb}
use Rattle.common.proofs.Cases.{by_bool}
use Rattle.mending_counts.specs.Occurrences.{occurs}

-- of two lists, one after the other, the counts add up
pub occurs_append : (b : ℕ) (v w : List ℕ) → occurs b (v ++ w) ≡ occurs b v + occurs b w
unfolding occurs
occurs_append b [] w = omega arith
occurs_append b (x ∷ v) w = rw (occurs_append b v w) (omega arith)

-- ONE BYTE MORE

module _ (b : ℕ) (l : List ℕ) (i : ℕ) (h : i < length l) where
  occurs_next : occurs b (take (i + 1) l) ≡ occurs b (take i l) + cond (eqb (get_or l i 0) b) 1 0
  unfolding occurs
  occurs_next = rw (add-one, take-suc l i 0, occurs_append b (take i l) (get_or l i 0 ∷ [])) (omega arith)

  pub occurs_same : {n : ℕ} → n ≡ occurs b (take i l) → get_or l i 0 ≡ b → n + 1 ≡ occurs b (take (i + 1) l)
  occurs_same {n} e q = rw (occurs_next, eq-eqb (get_or l i 0) b q, e)

  pub occurs_other : {n : ℕ} → n ≡ occurs b (take i l) → (get_or l i 0 ≡ b → ⊥) → n ≡ occurs b (take (i + 1) l)
  occurs_other {n} e d = rw (occurs_next, ne_eqb (get_or l i 0) b d, e) (omega arith)

-- PART BY PART

-- part i of those of n
part_at : (n m i : ℕ) (l : List ℕ) → i < m → get_or (first_chunks n m l) i [] ≡ take n (drop (n * i) l)
part_at n zero i l h = absurd (omega arith)
part_at n (suc m) zero l h = rw (mul-zero n)
part_at n (suc m) (suc i) l h =
    let on : n * i + n ≡ n * suc i = rw mul-suc (omega arith) in
    part_at n m i (drop n l) (omega arith) ∙ ap (take n) (drop-drop (n * i) n l ∙ ap (λ (k : ℕ). drop k l) (omega (arith, on)))

module _ (b : ℕ) (l : List ℕ) (parts : List (List ℕ)) (whole : parts ≡ first_chunks 240 (length l / 240) l)
    (many : length parts ≡ length l / 240) where
  -- a part has so many bytes
  pub part_length : (i : ℕ) → i < length parts → length (get_or parts i []) ≡ 240
  part_length i h =
      let low : i < length l / 240 = omega (arith, many) in
      rw (whole, part_at 240 (length l / 240) i l low) (length-take-le 240 (drop (240 * i) l) (omega (arith, length-drop (240 * i) l)))

  -- a part more is counted
  pub occurs_part : (i : ℕ) {n m : ℕ} → i < length parts → n ≡ occurs b (take (240 * i) l) → m ≡ occurs b (get_or parts i []) →
      n + m ≡ occurs b (take (240 * (i + 1)) l)
  occurs_part i {n} {m} h p q =
      let low : i < length l / 240 = omega (arith, many) in
      let here : get_or parts i [] ≡ take 240 (drop (240 * i) l) =
      ap (λ (t : List (List ℕ)). get_or t i []) whole ∙ part_at 240 (length l / 240) i l low in
      let all : 240 * (i + 1) ≡ 240 * i + 240 = omega arith in
      rw (all, take-add (240 * i) 240 l, occurs_append b (take (240 * i) l) (take 240 (drop (240 * i) l)), p, q, here)

  -- and what is left over
  pub occurs_rest : (i : ℕ) (rest : List ℕ) {n m : ℕ} → i ≡ length parts → rest ≡ drop (length l / 240 * 240) l →
      n ≡ occurs b (take (240 * i) l) → m ≡ occurs b rest → n + m ≡ occurs b l
  occurs_rest i rest {n} {m} h over p q =
      let place : length l / 240 * 240 ≡ 240 * i = omega (arith, many) in
      rw (p, q, over, place, ← occurs_append b (take (240 * i) l) (drop (240 * i) l), take-append-drop (240 * i) l)

pub occurs_most : (b : ℕ) (l : List ℕ) → occurs b l ≤ length l
unfolding occurs
occurs_most b [] = omega arith
occurs_most b (x ∷ l) = let less = occurs_most b l in by_bool (eqb x b) (λ e. rw e (omega arith)) (λ e. rw e (omega arith))
