-- The contracts of this crate determine the answer and all lent memory: two outcomes that one allows for an input coincide. Assumes
-- nothing.
use mathlib.Core.Path.{◌≡◌}
use mathlib.Core.List.{List}
use Prim.Native.Nat.{ℕ}
use lib.IntN.{ℤ}
use Rattle.std.specs.Prelude.{Result}
use Rattle.common.specs.Numbers.{told_number}
use Rattle.common.specs.declared.refusals.Refusal.{Refusal}
use Rattle.common.proofs.Determined.{told_coincide}
use Rattle.vectors.specs.declared.Vector.{Vector}
use Rattle.turn_told.specs.Told.{look_up_told, follow_told, reference_told}

module _ (dimension : ℕ) (vector : Vector) (answer after after' : List ℕ) (r r' : Result Unit Refusal) where
  look_up_told_determined : (told_number r, after) ≡ look_up_told dimension vector answer →
      (told_number r', after') ≡ look_up_told dimension vector answer → ◌≡◌ {A = Result Unit Refusal × List ℕ} (r, after) (r', after')
  look_up_told_determined = told_coincide r r' after after' (look_up_told dimension vector answer)

module _ (dimension order : ℕ) (vector : Vector) (node : ℕ) (answer after after' : List ℕ) (r r' : Result Unit Refusal) where
  follow_node_told_determined : (told_number r, after) ≡ follow_told dimension order vector node answer →
      (told_number r', after') ≡ follow_told dimension order vector node answer →
      ◌≡◌ {A = Result Unit Refusal × List ℕ} (r, after) (r', after')
  follow_node_told_determined = told_coincide r r' after after' (follow_told dimension order vector node answer)

module _ (dimension number : ℕ) (vector after after' : List ℤ) (r r' : Result Unit Refusal) where
  reference_vector_told_determined : (told_number r, after) ≡ reference_told dimension number vector →
      (told_number r', after') ≡ reference_told dimension number vector → ◌≡◌ {A = Result Unit Refusal × List ℤ} (r, after) (r', after')
  reference_vector_told_determined = told_coincide r r' after after' (reference_told dimension number vector)
