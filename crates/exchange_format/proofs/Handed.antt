-- What a `?` hands on is the fault that it was given; and a fault is known by its number and line. Assumes nothing.
use mathlib.Core.Path.{◌≡◌, ap}
use Prim.Native.Nat.{ℕ}
use mathlib.Core.Option.{Option, none, some}
use Rattle.std.specs.Prelude.{Result, Ok, Err}
use Rattle.std.specs.Result.{IsErrAnd}
use Rattle.common.specs.Numbers.{number}
use Rattle.common.proofs.Numbers.{number_same}
use Rattle.exchange_format.specs.Reading.{Outcome, refuse, give}
use Rattle.exchange_format.specs.Faults.{outcome}
use Rattle.exchange_format.specs.declared.Fault.{Fault}

module _ {A : Type 0} where
  pub handed_fault : (r : Result A Fault) (e : Fault) → IsErrAnd r (λ y. y ≡ e) → outcome r ≡ refuse (number e.refusal) e.line
  handed_fault (Ok a) e h = absurd h
  handed_fault (Err y) e h = ap (λ (f : Fault). refuse (number f.refusal) f.line) h

pub same_fault : (f g : Fault) → number f.refusal ≡ number g.refusal → f.line ≡ g.line → f ≡ g
same_fault f g p q = let r : f.refusal ≡ g.refusal = number_same f.refusal g.refusal p in λ i. record { refusal = r i; line = q i }

module _ {A : Type 0} where
  -- a refusal's number, which no answer has, and its line; and the answer, where there is one
  number_in : Outcome A → ℕ
  number_in (refuse n k) = n
  number_in (give a) = 0

  line_in : Outcome A → ℕ
  line_in (refuse n k) = k
  line_in (give a) = 0

  answer_in : Outcome A → Option A
  answer_in (refuse n k) = none
  answer_in (give a) = some a

  -- a result is known by its outcome
  pub outcome_same : (r s : Result A Fault) → outcome r ≡ outcome s → r ≡ s
  unfolding number_in line_in answer_in
  outcome_same (Ok a) (Ok b) e = let values : some a ≡ some b = ap answer_in e in cc
  outcome_same (Err f) (Err g) e = ap Err (same_fault f g (ap number_in e) (ap line_in e))
  outcome_same (Ok a) (Err g) e = let values : some a ≡ none = ap answer_in e in cc
  outcome_same (Err f) (Ok b) e = let values : none ≡ some b = ap answer_in e in cc
