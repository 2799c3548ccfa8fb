-- The contracts of this crate determine the answer and all lent memory: two outcomes that one allows for an input coincide. Assumes
-- nothing.
use mathlib.Core.Path.{◌≡◌}
use mathlib.Core.List.{List}
use Prim.Native.Nat.{ℕ}
use lib.Ieee.{Float}
use Rattle.std.specs.Prelude.{Result}
use Rattle.common.specs.Numbers.{told_number}
use Rattle.common.specs.declared.refusals.Refusal.{Refusal}
use Rattle.common.proofs.Determined.{told_coincide}
use Rattle.choices_told.specs.Told.{argmax_told, cutoff_told}

module _ (place after after' : List ℕ) (r r' : Result Unit Refusal) where
  argmax_masked_told_determined : (entries : List Float) (mask : List ℕ) → (told_number r, after) ≡ argmax_told entries mask place →
      (told_number r', after') ≡ argmax_told entries mask place → ◌≡◌ {A = Result Unit Refusal × List ℕ} (r, after) (r', after')
  argmax_masked_told_determined entries mask = told_coincide r r' after after' (argmax_told entries mask place)

  calculate_singular_values_cutoff_told_determined : (values : List Float) (epsilon : Float) →
      (told_number r, after) ≡ cutoff_told values epsilon place → (told_number r', after') ≡ cutoff_told values epsilon place →
      ◌≡◌ {A = Result Unit Refusal × List ℕ} (r, after) (r', after')
  calculate_singular_values_cutoff_told_determined values epsilon = told_coincide r r' after after' (cutoff_told values epsilon place)
