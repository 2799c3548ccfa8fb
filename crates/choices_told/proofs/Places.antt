-- A place in a lent answer: what is told of a call's answer is told of its number and its place. Assumes nothing.
use mathlib.Core.Path.{◌≡◌, refl}
use mathlib.Core.List.{List, [], ◌∷◌}
use Prim.Native.Nat.{ℕ, zero, suc, ◌<◌}
use native.Mathlib.Omega.{arith}
use lib.Dec.{eqb}
use mathlib.Core.Bool.{Bool, true, false}
use borrow.Author.Tests.{ne_eqb}
use lib.ListN.{length}
use Rattle.std.specs.Prelude.{Result, Ok, Err}
use Rattle.common.specs.declared.refusals.Refusal.{Refusal}
use Rattle.common.specs.Numbers.{told_number, told}
use Rattle.common.specs.Refusals.{answer, lower}
use Rattle.common.proofs.Limits.{call_refused}
use Rattle.answers.specs.Answers.{with_length, written}
use Rattle.choices_told.specs.Working.{place_told}
use Rattle.answers.proofs.Lengths.{written_refused}

-- a refusal stays one, whatever is lent
with_refusal : (n : ℕ) (fits : Bool) → with_length (suc n) fits ≡ 0 → ⊥
unfolding with_length lower
with_refusal n true = rw (ne_eqb (suc n) 0 (λ z. omega arith)) (λ z. omega arith)
with_refusal n false = rw (ne_eqb (suc n) 0 (λ z. omega arith)) (λ z. omega arith)

pub place_told_lem : (n k : ℕ) (lent : List ℕ) → place_told (answer n k) lent ≡ written n (k ∷ []) lent
unfolding place_told
place_told_lem zero k lent = refl
place_told_lem (suc n) k lent = written_refused (k ∷ []) lent (suc n) _ refl (with_refusal n (eqb (length lent) 1))

-- a refusal, by the call or by the length of what is lent
pub place_refused : (found : Result ℕ Refusal) (lent : List ℕ) (n : ℕ) → n ≡ with_length (told_number found) (eqb (length lent) 1) →
    0 < n → (n, lent) ≡ place_told (told found) lent
unfolding place_told written
place_refused (Err r) lent n e h = rw e
place_refused (Ok k) lent n e h =
    call_refused n _ (k ∷ []) lent e (λ z. omega (arith, h, e, z))
