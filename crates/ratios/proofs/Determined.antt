-- The contract of the public call determines its answer and all lent memory. Assumes nothing.
use mathlib.Core.Path.{◌≡◌}
use mathlib.Core.List.{List}
use Prim.Native.Nat.{ℕ}
use lib.Ieee.{Float}
use Rattle.std.specs.Prelude.{Result}
use Rattle.common.specs.Numbers.{told_number}
use Rattle.common.specs.declared.refusals.Refusal.{Refusal}
use Rattle.common.proofs.Determined.{told_coincide}
use Rattle.ratios.specs.Ratios.{Memory, ratios_call}

module _ (dimension order rows : ℕ) (side floor : Float) (centre polynomials carbonMonoxide nitrogen oxygen : List Float)
    (lent m m' : Memory) (r r' : Result Unit Refusal) where
  graham_ratios_determined :
      (told_number r, m) ≡ ratios_call dimension order rows side floor centre polynomials carbonMonoxide nitrogen oxygen lent →
      (told_number r', m') ≡ ratios_call dimension order rows side floor centre polynomials carbonMonoxide nitrogen oxygen lent →
      ◌≡◌ {A = Result Unit Refusal × Memory} (r, m) (r', m')
  graham_ratios_determined =
      told_coincide r r' m m' (ratios_call dimension order rows side floor centre polynomials carbonMonoxide nitrogen oxygen lent)
