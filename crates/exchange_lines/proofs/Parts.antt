-- What `position` and `all` find in a line, as parts of it. Assumes nothing.
use mathlib.Core.Path.{◌≡◌, refl, sym, ◌∙◌}
use mathlib.Core.Bool.{Bool, not}
use mathlib.Core.List.{List, [], ◌∷◌}
use Prim.Native.Nat.{ℕ, suc, ◌+◌, ◌-◌, ◌<◌, ◌≤◌}
use native.Mathlib.Omega.{arith}
use lib.Dec.{eqb, ltb}
use lib.ListN.{length, take, drop, length-drop}
use lib.Seq.{take_all}
use borrow.Author.Tests.{ltb-true, ltb-false}
use Rattle.std.specs.Prelude.{Some, None}
use Rattle.std.specs.List.{position, position_or_len, list_all}
use Rattle.common.proofs.Cases.{by_bool}
use Rattle.exchange_format.specs.Lines.{before, past, is_empty}

-- a part up to the end
pub tail : (l : List ℕ) (a : ℕ) → take (length l - a) (drop a l) ≡ drop a l
tail l a = take_all (length l - a) (drop a l) (omega (arith, length-drop a l))

-- a place that `position` answers, and that it answers none
module _ (p : ℕ → Bool) (s : List ℕ) where
  pub some_place : (i : ℕ) → position p s ≡ Some i → (i ≡ position_or_len p s) × (i < length s)
  some_place i e =
      by_bool (ltb (position_or_len p s) (length s))
      (λ t. let q : Some (position_or_len p s) ≡ Some i = rw t at e in
      let same : position_or_len p s ≡ i = cc in
      (sym same, omega (arith, ltb-true (position_or_len p s) (length s) t)))
      (λ t. absurd (let q : None ≡ Some i = rw t at e in let z : ◌≡◌ {A = ℕ} 0 1 = cc in omega arith))

  pub no_place : position p s ≡ None → length s ≤ position_or_len p s
  no_place e =
      by_bool (ltb (position_or_len p s) (length s))
      (λ t. absurd (let q : Some (position_or_len p s) ≡ None = rw t at e in let z : ◌≡◌ {A = ℕ} 0 1 = cc in omega arith))
      (λ t. ltb-false (position_or_len p s) (length s) t)

drop_more : (n x : ℕ) (s : List ℕ) → drop (1 + n) (x ∷ s) ≡ drop n s
drop_more n x s = let e : 1 + n ≡ suc n = omega arith in rw e

module _ (b : ℕ) where
  pub before_place : (s : List ℕ) → length (before b s) ≡ position_or_len (λ x. eqb x b) s
  unfolding before
  before_place [] = refl
  before_place (x ∷ s) = by_bool (eqb x b) (λ e. rw e) (λ e. rw e (omega (arith, before_place s)))

  pub past_place : (s : List ℕ) → drop (position_or_len (λ x. not (eqb x b)) s) s ≡ past b s
  unfolding past
  past_place [] = refl
  past_place (x ∷ s) =
      by_bool (eqb x b)
      (λ e. rw e (drop_more (position_or_len (λ y. not (eqb y b)) s) x s ∙ past_place s))
      (λ e. rw e)

  pub past_all : (s : List ℕ) → is_empty (past b s) ≡ list_all (λ x. eqb x b) s
  unfolding past
  past_all [] = refl
  past_all (x ∷ s) = by_bool (eqb x b) (λ e. rw e (past_all s)) (λ e. rw e)
