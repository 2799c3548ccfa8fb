-- A list over the front of another: as a store leaves it, and twice. Assumes nothing.
use mathlib.Core.Path.{◌≡◌, refl, sym, ap, ◌∙◌}
use mathlib.Core.List.{List, [], ◌∷◌, ◌++◌, append_assoc}
use Prim.Native.Nat.{ℕ, suc, ◌+◌, ◌-◌, ◌<◌, ◌≤◌}
use native.Mathlib.Numerals.{add-one}
use native.Mathlib.Omega.{arith}
use lib.ListN.{length, set, take, drop, get_or, length-append, take-append-drop}
use lib.Seq.{length-take-le, split_at, set_at, take_at, drop_at, drop-drop}
use Rattle.common.specs.Lists.{stretch}
use Rattle.common.proofs.Fill.{listed}
use Rattle.aca_steps.specs.Memories.{upon}

module _ {A : Type 0} where
  pub upon_same : (p : ℕ) (t : List A) → p ≤ length t → t ≡ upon (take p t) t
  upon_same p t h = rw (length-take-le p t h) (sym (take-append-drop p t))

  head_long : (p : ℕ) (x t : List A) → p ≤ length t → length (take p t ++ x) ≡ p + length x
  head_long p x t h = rw (length-append, length-take-le p t h)

  -- a list copied to place p, behind p entries that are kept
  pub upon_stretch : (p m : ℕ) (x t : List A) (d : A) → length x ≡ m → p + m ≤ length t →
      stretch p m (λ i. get_or x i d) t ≡ upon (take p t ++ x) t
  upon_stretch p m x t d e h =
      let b : p ≤ length t = omega arith in
      rw (listed x m d e, head_long p x t b, e, append_assoc)

  pub upon_set : (k : ℕ) (v : A) (t : List A) → k < length t → set t k v ≡ upon (take k t ++ v ∷ []) t
  upon_set k v t h =
      let b : k ≤ length t = omega arith in
      ap (λ (l : List A). set l k v) (split_at t k v h) ∙ set_at (take k t) (get_or t k v) (drop (suc k) t) v k (length-take-le k t b)
      ∙ rw (head_long k (v ∷ []) t b, add-one, append_assoc)

  pub take_upon : (n : ℕ) (l t : List A) → length l ≡ n → take n (upon l t) ≡ l
  take_upon n l t e = take_at l (drop (length l) t) n e

  -- the longer list hides the shorter
  pub upon_upon : (l l' t : List A) → length l ≤ length l' → upon l' (upon l t) ≡ upon l' t
  upon_upon l l' t h =
      let more = length l' - length l in
      let whole : length l' ≡ length l + more = omega arith in
      let past : drop (length l') (upon l t) ≡ drop (length l') t =
      rw whole
      (sym (drop-drop more (length l) (upon l t)) ∙ ap (drop more) (drop_at l (drop (length l) t) (length l) refl)
      ∙ drop-drop more (length l) t) in
      rw past
