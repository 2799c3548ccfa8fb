-- The public contract determines the answer and the lent memory: two outcomes that it allows for an input coincide. Assumes nothing.
use mathlib.Core.Path.{◌≡◌}
use mathlib.Core.List.{List}
use Prim.Native.Nat.{ℕ}
use lib.Ieee.{Float}
use Rattle.std.specs.Prelude.{Result}
use Rattle.common.specs.Numbers.{told_number}
use Rattle.common.specs.declared.refusals.Refusal.{Refusal}
use Rattle.common.proofs.Determined.{told_coincide}
use Rattle.curvatures.specs.Curvatures.{Memory, curvature_call}

module _ (dimension order rows : ℕ) (side : Float) (polynomials coordinates : List Float) (lent m m' : Memory)
    (r r' : Result Unit Refusal) where
  get_curvature_coefficients_determined : (told_number r, m) ≡ curvature_call dimension order rows side polynomials coordinates lent →
      (told_number r', m') ≡ curvature_call dimension order rows side polynomials coordinates lent →
      ◌≡◌ {A = Result Unit Refusal × Memory} (r, m) (r', m')
  get_curvature_coefficients_determined =
      told_coincide r r' m m' (curvature_call dimension order rows side polynomials coordinates lent)
