-- What the length of a lent answer brings, and what a call then answers and leaves. Assumes nothing.
use mathlib.Core.Path.{◌≡◌, refl, sym, ap, ◌∙◌}
use mathlib.Core.Bool.{Bool, true, false}
use mathlib.Core.List.{List, [], ◌∷◌}
use Prim.Native.Nat.{ℕ}
use native.Mathlib.Omega.{arith}
use lib.Dec.{eqb}
use lib.ListN.{length, set}
use borrow.Author.Tests.{ne_eqb}
use Rattle.std.specs.Prelude.{Result, Ok, Err}
use Rattle.common.specs.declared.refusals.Refusal.{Refusal}
use Rattle.common.specs.Numbers.{number, told, told_number}
use Rattle.common.specs.Refusals.{lower, answer}
use Rattle.common.proofs.Answers.{refused_by, done_by}
use Rattle.common.proofs.Cases.{by_eq}
use Rattle.common.proofs.Limits.{call_refused, call_done}
use Rattle.answers.specs.Answers.{with_length, written}

-- THE NUMBER

pub with_fit : (own : ℕ) → with_length own true ≡ own
unfolding with_length lower
with_fit own = by_eq own 0 (λ z e. rw (e, z)) (λ h e. rw e)

-- a call's own number is that of what it answers
module _ {V : Type 0} where
  pub own_number : (found : Result V Refusal) (own : ℕ) (k : V) → told found ≡ answer own k → told_number found ≡ own
  own_number (Ok x) own k e = sym (done_by own k x e).0
  own_number (Err r) own k e = (refused_by (number r) own k e).0

-- THE CALL

module _ {A : Type 0} (values lent : List A) where
  pub written_refused : (own r : ℕ) → r ≡ with_length own (eqb (length lent) (length values)) → (r ≡ 0 → ⊥) →
      (r, lent) ≡ written own values lent
  unfolding written
  written_refused own r e h = call_refused r _ values lent e h

  pub written_done : (own : ℕ) (after : List A) → own ≡ 0 → eqb (length lent) (length values) ≡ true → after ≡ values →
      (0, after) ≡ written own values lent
  unfolding written with_length lower
  written_done own after z e h = call_done 0 _ values lent (rw (z, e)) after refl h

-- what a call answers, told in a slice: refused, or written value by value
module _ {V A : Type 0} (found : Result V Refusal) (own : ℕ) (k : V) (h : told found ≡ answer own k) (values : V → List A)
    (lent : List A) where
  pub told_refused : (r : ℕ) → r ≡ with_length (told_number found) (eqb (length lent) (length (values k))) → (r ≡ 0 → ⊥) →
      (r, lent) ≡ written own (values k) lent
  told_refused r e = written_refused (values k) lent own r (rw (own_number found own k h) at e)

  pub told_done : (x : V) (after : List A) → found ≡ Ok x → eqb (length lent) (length (values k)) ≡ true → after ≡ values x →
      (0, after) ≡ written own (values k) lent
  told_done x after e fits a =
      let done = done_by own k x (rw e at h) in
      written_done (values k) lent own after done.0 fits (a ∙ ap values done.1)

-- THE STORES: a list of one to four places, each written in turn

module _ {A : Type 0} where
  pub stored_one : (l : List A) (a : A) → length l ≡ 1 → set l 0 a ≡ a ∷ []
  stored_one [] a e = absurd (omega arith)
  stored_one (x ∷ []) a e = refl
  stored_one (x ∷ y ∷ l) a e = absurd (omega arith)

  pub stored_two : (l : List A) (a b : A) → length l ≡ 2 → set (set l 0 a) 1 b ≡ a ∷ b ∷ []
  stored_two [] a b e = absurd (omega arith)
  stored_two (x ∷ l) a b e = ap (λ (t : List A). a ∷ t) (stored_one l b (omega arith))

  pub stored_three : (l : List A) (a b c : A) → length l ≡ 3 → set (set (set l 0 a) 1 b) 2 c ≡ a ∷ b ∷ c ∷ []
  stored_three [] a b c e = absurd (omega arith)
  stored_three (x ∷ l) a b c e = ap (λ (t : List A). a ∷ t) (stored_two l b c (omega arith))

  pub stored_four : (l : List A) (a b c d : A) → length l ≡ 4 → set (set (set (set l 0 a) 1 b) 2 c) 3 d ≡ a ∷ b ∷ c ∷ d ∷ []
  stored_four [] a b c d e = absurd (omega arith)
  stored_four (x ∷ l) a b c d e = ap (λ (t : List A). a ∷ t) (stored_three l b c d (omega arith))
