-- The public contracts determine the answer: two answers that one allows for an input coincide. Assumes nothing.
use mathlib.Core.Path.{◌≡◌, sym, ◌∙◌}
use Prim.Native.Nat.{ℕ}
use Rattle.std.specs.Prelude.{Result}
use Rattle.common.specs.Numbers.{told}
use Rattle.common.specs.declared.refusals.Refusal.{Refusal}
use Rattle.common.proofs.Numbers.{told_same}
use Rattle.vectors.specs.declared.Vector.{Vector}
use Rattle.vectors.specs.declared.Known.{Known}
use Rattle.vectors.specs.declared.Turn.{Turn}
use Rattle.vectors.specs.LookUps.{look_up, turning_call, reference_call}

pub look_up_determined : (dimension : ℕ) (vector : Vector) (r r' : Result Known Refusal) → told r ≡ look_up dimension vector →
    told r' ≡ look_up dimension vector → r ≡ r'
look_up_determined dimension vector r r' e e' = told_same r r' (e ∙ sym e')

reference_vector_determined : (dimension number : ℕ) (r r' : Result Vector Refusal) → told r ≡ reference_call dimension number →
    told r' ≡ reference_call dimension number → r ≡ r'
reference_vector_determined dimension number r r' e e' = told_same r r' (e ∙ sym e')

find_turn_determined : (dimension : ℕ) (vector : Vector) (r r' : Result Turn Refusal) → told r ≡ turning_call dimension vector →
    told r' ≡ turning_call dimension vector → r ≡ r'
find_turn_determined dimension vector r r' e e' = told_same r r' (e ∙ sym e')
