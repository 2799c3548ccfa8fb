-- The public contracts determine the answers: two that one allows for an input coincide. Assumes nothing.
use mathlib.Core.Path.{◌≡◌, sym, ◌∙◌}
use mathlib.Core.List.{List}
use Prim.Native.Nat.{ℕ}
use lib.Ieee.{Float}
use Rattle.std.specs.Prelude.{Result}
use Rattle.common.specs.declared.refusals.Refusal.{Refusal}
use Rattle.common.specs.Numbers.{told}
use Rattle.common.proofs.Numbers.{told_same}
use Rattle.choices.specs.Argmax.{argmax_call}
use Rattle.choices.specs.Cutoff.{cutoff_call}

argmax_masked_determined : (entries : List Float) (mask : List ℕ) (r r' : Result ℕ Refusal) → told r ≡ argmax_call entries mask →
    told r' ≡ argmax_call entries mask → r ≡ r'
argmax_masked_determined entries mask r r' e e' = told_same r r' (e ∙ sym e')

calculate_singular_values_cutoff_determined : (values : List Float) (epsilon : Float) (r r' : Result ℕ Refusal) →
    told r ≡ cutoff_call values epsilon → told r' ≡ cutoff_call values epsilon → r ≡ r'
calculate_singular_values_cutoff_determined values epsilon r r' e e' = told_same r r' (e ∙ sym e')
