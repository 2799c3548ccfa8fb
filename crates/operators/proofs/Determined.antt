-- The public contract determines the answer and the lent memory: two outcomes that it allows for an input coincide. Assumes nothing.
use mathlib.Core.Path.{◌≡◌}
use mathlib.Core.List.{List}
use Prim.Native.Nat.{ℕ}
use lib.Ieee.{Float}
use Rattle.std.specs.Prelude.{Result}
use Rattle.common.specs.Numbers.{told_number}
use Rattle.common.specs.declared.refusals.Refusal.{Refusal}
use Rattle.common.proofs.Determined.{told_coincide}
use Rattle.operators.specs.Operators.{operators_call}

module _ (order : ℕ) (nodes polynomials operators exit exit' : List Float) (r r' : Result Unit Refusal) where
  get_m2m_transfer_operators_determined : (told_number r, exit) ≡ operators_call order nodes polynomials operators →
      (told_number r', exit') ≡ operators_call order nodes polynomials operators →
      ◌≡◌ {A = Result Unit Refusal × List Float} (r, exit) (r', exit')
  get_m2m_transfer_operators_determined = told_coincide r r' exit exit' (operators_call order nodes polynomials operators)
