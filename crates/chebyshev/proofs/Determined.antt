-- The public contracts determine the answer and the lent memory: two outcomes that one allows for an input coincide. Assumes nothing.
use mathlib.Core.Path.{◌≡◌, sym, ap, ◌∙◌}
use mathlib.Core.Bool.{Bool}
use mathlib.Core.List.{List}
use Prim.Native.Nat.{ℕ}
use lib.Ieee.{Float}
use Rattle.std.specs.Prelude.{Result}
use Rattle.common.specs.Numbers.{told_number}
use Rattle.common.specs.declared.refusals.Refusal.{Refusal}
use Rattle.common.proofs.Determined.{told_coincide}
use Rattle.common.proofs.Numbers.{number_told_same}
use Rattle.chebyshev.specs.Polynomials.{polynomials_call}
use Rattle.chebyshev.specs.Second.{Memory, second_call}

-- a number, and two lists
abbrev Told : Type 0
Told = ℕ × List Float × List Float

module _ (order rows : ℕ) (points : List Float) (r r' : Result Unit Refusal) where
  evaluate_chebyshev_polynomials_determined : (with : Bool) (tn dtn v v' d d' : List Float) →
      (told_number r, v, d) ≡ polynomials_call order rows with points tn dtn →
      (told_number r', v', d') ≡ polynomials_call order rows with points tn dtn →
      ◌≡◌ {A = Result Unit Refusal × List Float × List Float} (r, v, d) (r', v', d')
  evaluate_chebyshev_polynomials_determined with tn dtn v v' d d' e e' =
      let same = e ∙ sym e' in
      let answers = number_told_same r r' (ap (λ (t : Told). t.0) same) in
      let firsts : v ≡ v' = ap (λ (t : Told). t.1) same in
      let seconds : d ≡ d' = ap (λ (t : Told). t.2) same in
      cc

  evaluate_second_derivatives_determined : (lent m m' : Memory) → (told_number r, m) ≡ second_call order rows points lent →
      (told_number r', m') ≡ second_call order rows points lent → ◌≡◌ {A = Result Unit Refusal × Memory} (r, m) (r', m')
  evaluate_second_derivatives_determined lent m m' = told_coincide r r' m m' (second_call order rows points lent)
