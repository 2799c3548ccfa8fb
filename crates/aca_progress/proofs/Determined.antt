-- The contracts of this crate determine their results. Assumes nothing.
use mathlib.Core.Path.{◌≡◌, sym, ◌∙◌}
use mathlib.Core.Bool.{Bool}
use Prim.Native.Nat.{ℕ}
use lib.Ieee.{Float}
use Rattle.common.proofs.Determined.{coincide}
use Rattle.aca_pivots.specs.declared.Pivot.{Pivot}
use Rattle.aca_progress.specs.Crosses.{noted, grown, without, judged}
use Rattle.aca_progress.specs.Working.{usable_here}
use Rattle.aca_progress.specs.declared.Progress.{Progress}
use Rattle.aca_progress.specs.declared.Stop.{Stop as Reason}
use Rattle.std.specs.declared.ops.ControlFlow.{ControlFlow}
use Rattle.aca_progress.specs.Steps.{step_of, stop_number}
use Rattle.aca_progress.proofs.Steps.{step_same}

module _ (restart : Bool) (on : ℕ → Bool) where
  is_usable_determined : (p : Pivot) (r r' : Bool) → r ≡ usable_here restart on p → r' ≡ usable_here restart on p → r ≡ r'
  is_usable_determined p r r' = coincide r r' (usable_here restart on p)

  without_determined : (m : ℕ) (s : Progress) (r r' : ControlFlow (Reason × Progress) Progress) → step_of r ≡ without restart m on s →
      step_of r' ≡ without restart m on s → r ≡ r'
  without_determined m s r r' e e' = step_same r r' (e ∙ sym e')

  judge_determined : (m k : ℕ) (tolerance norm : Float) (s : Progress) (r r' : ControlFlow (Reason × Progress) Progress) →
      step_of r ≡ judged restart m k tolerance norm on s → step_of r' ≡ judged restart m k tolerance norm on s → r ≡ r'
  judge_determined m k tolerance norm s r r' e e' = step_same r r' (e ∙ sym e')

-- of `Stop::number`
number_determined : (stop : Reason) (r r' : ℕ) → r ≡ stop_number stop → r' ≡ stop_number stop → r ≡ r'
number_determined stop r r' = coincide r r' (stop_number stop)

note_determined : (s : Progress) (size : Float) (r r' : Progress) → r ≡ noted s size → r' ≡ noted s size → r ≡ r'
note_determined s size r r' = coincide r r' (noted s size)

grow_determined : (s : Progress) (norm cross : Float) (next : ℕ) (r r' : Progress) → r ≡ grown s norm cross next →
    r' ≡ grown s norm cross next → r ≡ r'
grow_determined s norm cross next r r' = coincide r r' (grown s norm cross next)
