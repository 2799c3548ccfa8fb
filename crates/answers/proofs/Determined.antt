-- The contract of this crate determines its result. Assumes nothing.
use mathlib.Core.Path.{◌≡◌, sym, ◌∙◌}
use mathlib.Core.Bool.{Bool, true}
use Rattle.std.specs.Prelude.{Result, Ok, IfOk}
use Rattle.common.specs.declared.refusals.Refusal.{Refusal}
use Rattle.common.specs.Numbers.{told_number}
use Rattle.common.proofs.Determined.{found_coincide}
use Rattle.answers.specs.Answers.{with_length}

with_length_determined : {A : Type 0} (found : Result A Refusal) (fits : Bool) (r r' : Result A Refusal) →
    told_number r ≡ with_length (told_number found) fits → told_number r' ≡ with_length (told_number found) fits →
    IfOk r (λ x. (found ≡ Ok x) × (fits ≡ true)) → IfOk r' (λ x. (found ≡ Ok x) × (fits ≡ true)) → r ≡ r'
with_length_determined found fits r r' =
    found_coincide (λ x. (found ≡ Ok x) × (fits ≡ true)) (λ x y h h'. let same = sym h.0 ∙ h'.0 in cc)
    (with_length (told_number found) fits) r r'
