-- The contracts of this crate determine their results. Assumes nothing.
use mathlib.Core.Path.{◌≡◌, sym, ◌∙◌}
use mathlib.Core.Bool.{Bool}
use mathlib.Core.List.{List}
use Prim.Native.Nat.{ℕ}
use lib.Ieee.{Float}
use Rattle.std.specs.Prelude.{Result}
use Rattle.common.specs.Numbers.{told_number}
use Rattle.common.specs.declared.refusals.Refusal.{Refusal}
use Rattle.common.proofs.Determined.{coincide, told_coincide}
use Rattle.common.proofs.Numbers.{number_told_same}
use Rattle.coordinates.specs.Coordinates.{all_finite}
use Rattle.coordinates.specs.Scaling.{scaling_number, scale_call}

all_finite_determined : (list : List Float) (r r' : Bool) → r ≡ all_finite list → r' ≡ all_finite list → r ≡ r'
all_finite_determined list r r' = coincide r r' (all_finite list)

module _ (dimension rows : ℕ) (side : Float) (centre points : List Float) (r r' : Result Unit Refusal) where
  scaling_number_determined : told_number r ≡ scaling_number dimension rows side centre points →
      told_number r' ≡ scaling_number dimension rows side centre points → r ≡ r'
  scaling_number_determined e e' = number_told_same r r' (e ∙ sym e')

  scale_points_determined : (exit exit' : List Float) → (told_number r, exit) ≡ scale_call dimension rows side centre points →
      (told_number r', exit') ≡ scale_call dimension rows side centre points →
      ◌≡◌ {A = Result Unit Refusal × List Float} (r, exit) (r', exit')
  scale_points_determined exit exit' = told_coincide r r' exit exit' (scale_call dimension rows side centre points)
