-- A refusal has a number, which is not 0 and which no other has; and what a `?` hands on. Assumes nothing.
use mathlib.Core.Path.{◌≡◌, refl, sym, ap, ◌∙◌}
use mathlib.Core.Option.{none, some}
use Prim.Native.Nat.{ℕ, zero, suc, ◌<◌, min}
use native.Mathlib.Omega.{arith}
use borrow.Author.Tests.{ne_eqb}
use Rattle.std.specs.Prelude.{Result, Ok, Err}
use Rattle.std.specs.Result.{IsErrAnd}
use Rattle.common.specs.Refusals.{lower}
use Rattle.common.proofs.Cases.{by_eq}
use Rattle.common.specs.Numbers.{number, told_number, told}
use Rattle.common.specs.declared.refusals.Refusal.{Refusal}
use Rattle.common.specs.declared.refusals.Refusal.TheVariants as refusal

pub number_above : (r : Refusal) → 0 < number r
number_above refusal.NoDimension = omega arith
number_above refusal.NoOrder = omega arith
number_above refusal.NoCount = omega arith
number_above refusal.NoEntry = omega arith
number_above refusal.NoCase = omega arith
number_above refusal.NotZero = omega arith
number_above refusal.WrongLength = omega arith
number_above refusal.NoCell = omega arith
number_above refusal.NotFinite = omega arith
number_above refusal.NoMask = omega arith
number_above refusal.OutOfCell = omega arith
number_above refusal.NoFloor = omega arith
number_above refusal.NoFirstLine = omega arith
number_above refusal.NoSize = omega arith
number_above refusal.BadEntry = omega arith
number_above refusal.WrongCount = omega arith
number_above refusal.NoSet = omega arith

-- the lower of two numbers where one is none, and where neither is
pub lower_found : (a : ℕ) → lower a 0 ≡ a
unfolding lower
lower_found a = by_eq a 0 (λ z e. rw (e, z)) (λ h e. rw e)

pub lower_other : (b : ℕ) → lower 0 b ≡ b
unfolding lower
lower_other b = refl

pub lower_both : (a b : ℕ) → 0 < a → 0 < b → lower a b ≡ min a b
unfolding lower
lower_both a b h k = rw (ne_eqb a 0 (λ e. omega arith), ne_eqb b 0 (λ e. omega arith))

-- what a `?` hands on is the refusal that it was given
module _ {A : Type 0} where
  pub handed_on : (r : Result A Refusal) (e : Refusal) → IsErrAnd r (λ y. y ≡ e) → told_number r ≡ number e
  handed_on (Ok a) e h = absurd h
  handed_on (Err y) e h = ap number h

  pub handed_told : (r : Result A Refusal) (e : Refusal) → IsErrAnd r (λ y. y ≡ e) → told r ≡ (number e, none)
  handed_told (Ok a) e h = absurd h
  handed_told (Err y) e h = ap (λ (n : ℕ). (n, none)) (ap number h)

-- A REFUSAL IS KNOWN BY ITS NUMBER, and an answer by what is told of it

numbered : ℕ → Refusal
numbered (suc zero) = refusal.NoDimension
numbered (suc (suc zero)) = refusal.NoOrder
numbered (suc (suc (suc zero))) = refusal.NoCount
numbered (suc (suc (suc (suc zero)))) = refusal.NoEntry
numbered (suc (suc (suc (suc (suc zero))))) = refusal.NoCase
numbered (suc (suc (suc (suc (suc (suc zero)))))) = refusal.NotZero
numbered (suc (suc (suc (suc (suc (suc (suc zero))))))) = refusal.WrongLength
numbered (suc (suc (suc (suc (suc (suc (suc (suc zero)))))))) = refusal.NoCell
numbered (suc (suc (suc (suc (suc (suc (suc (suc (suc zero))))))))) = refusal.NotFinite
numbered (suc (suc (suc (suc (suc (suc (suc (suc (suc (suc zero)))))))))) = refusal.NoMask
numbered (suc (suc (suc (suc (suc (suc (suc (suc (suc (suc (suc zero))))))))))) = refusal.OutOfCell
numbered (suc (suc (suc (suc (suc (suc (suc (suc (suc (suc (suc (suc zero)))))))))))) = refusal.NoFloor
numbered (suc (suc (suc (suc (suc (suc (suc (suc (suc (suc (suc (suc (suc zero))))))))))))) = refusal.NoFirstLine
numbered (suc (suc (suc (suc (suc (suc (suc (suc (suc (suc (suc (suc (suc (suc zero)))))))))))))) = refusal.NoSize
numbered (suc (suc (suc (suc (suc (suc (suc (suc (suc (suc (suc (suc (suc (suc (suc zero))))))))))))))) = refusal.BadEntry
numbered (suc (suc (suc (suc (suc (suc (suc (suc (suc (suc (suc (suc (suc (suc (suc (suc zero)))))))))))))))) = refusal.WrongCount
numbered n = refusal.NoSet

by_number : (r : Refusal) → numbered (number r) ≡ r
unfolding numbered
by_number refusal.NoDimension = refl
by_number refusal.NoOrder = refl
by_number refusal.NoCount = refl
by_number refusal.NoEntry = refl
by_number refusal.NoCase = refl
by_number refusal.NotZero = refl
by_number refusal.WrongLength = refl
by_number refusal.NoCell = refl
by_number refusal.NotFinite = refl
by_number refusal.NoMask = refl
by_number refusal.OutOfCell = refl
by_number refusal.NoFloor = refl
by_number refusal.NoFirstLine = refl
by_number refusal.NoSize = refl
by_number refusal.BadEntry = refl
by_number refusal.WrongCount = refl
by_number refusal.NoSet = refl

pub number_same : (r r' : Refusal) → number r ≡ number r' → r ≡ r'
number_same r r' e = sym (by_number r) ∙ ap numbered e ∙ by_number r'

module _ {A : Type 0} where
  pub told_same : (r r' : Result A Refusal) → told r ≡ told r' → r ≡ r'
  told_same (Ok a) (Ok a') e = let values : some a ≡ some a' = ap (λ t. t.1) e in cc
  told_same (Err r) (Err r') e = ap Err (number_same r r' (ap (λ t. t.0) e))
  told_same (Ok a) (Err r) e = let values : some a ≡ none = ap (λ t. t.1) e in cc
  told_same (Err r) (Ok a) e = let values : none ≡ some a = ap (λ t. t.1) e in cc

pub number_told_same : (r r' : Result Unit Refusal) → told_number r ≡ told_number r' → r ≡ r'
number_told_same (Ok a) (Ok a') e = refl
number_told_same (Err r) (Err r') e = ap Err (number_same r r' e)
number_told_same (Ok a) (Err r) e = absurd (omega (arith, number_above r))
number_told_same (Err r) (Ok a) e = absurd (omega (arith, number_above r))
