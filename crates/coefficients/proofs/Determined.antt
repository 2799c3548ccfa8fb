-- The contracts of the public calls determine their answers and all lent memory. Assumes nothing.
use mathlib.Core.Path.{◌≡◌, sym, ◌∙◌}
use mathlib.Core.List.{List}
use Prim.Native.Nat.{ℕ}
use lib.Ieee.{Float}
use Rattle.std.specs.Prelude.{Result}
use Rattle.common.specs.Numbers.{told_number}
use Rattle.common.specs.declared.refusals.Refusal.{Refusal}
use Rattle.common.proofs.Determined.{told_coincide}
use Rattle.common.proofs.Numbers.{number_told_same}
use Rattle.coefficients.specs.Coefficients.{Memory, coefficients_call}
use Rattle.coefficients.specs.declared.wanted.Wanted.{Wanted}

module _ (dimension order rows : ℕ) (wanted : Wanted) (polynomials coordinates : List Float) (lent : Memory)
    (r r' : Result Unit Refusal) where
  get_approximation_coefficients_determined : (m m' : Memory) →
      (told_number r, m) ≡ coefficients_call dimension order rows wanted polynomials coordinates lent →
      (told_number r', m') ≡ coefficients_call dimension order rows wanted polynomials coordinates lent →
      ◌≡◌ {A = Result Unit Refusal × Memory} (r, m) (r', m')
  get_approximation_coefficients_determined m m' =
      told_coincide r r' m m' (coefficients_call dimension order rows wanted polynomials coordinates lent)

  coefficients_number_determined : told_number r ≡ (coefficients_call dimension order rows wanted polynomials coordinates lent).0 →
      told_number r' ≡ (coefficients_call dimension order rows wanted polynomials coordinates lent).0 → r ≡ r'
  coefficients_number_determined e e' = number_told_same r r' (e ∙ sym e')
