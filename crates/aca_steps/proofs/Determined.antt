-- The contract of a step determines its answer and all lent memory, and which flags are 1. Assumes nothing.
use mathlib.Core.Path.{◌≡◌, sym, ◌∙◌}
use mathlib.Core.List.{List}
use Prim.Native.Nat.{ℕ, ◌<◌}
use Rattle.common.proofs.Determined.{coincide}
use Rattle.common.specs.Refusals.{most_entries}
use Rattle.aca_pivots.specs.Flags.{is_on}
use Rattle.aca_progress.specs.Crosses.{Outcome}
use Rattle.aca_steps.specs.Memories.{Memory}
use Rattle.aca_steps.specs.Standing.{Stepped}
use Rattle.std.specs.declared.ops.ControlFlow.{ControlFlow}
use Rattle.aca_progress.specs.declared.Progress.{Progress}
use Rattle.aca_progress.specs.declared.Stop.{Stop as Reason}
use Rattle.aca_progress.specs.Steps.{step_of}
use Rattle.aca_progress.proofs.Steps.{step_same}

advance_determined : (low : ℕ) (o : Outcome) (t after after' : Memory) (r r' : ControlFlow (Reason × Progress) Progress)
    (rows rows' columns columns' : List ℕ) → Stepped low o t (step_of r) after rows columns →
    Stepped low o t (step_of r') after' rows' columns' →
    (r ≡ r') × (after ≡ after') × ((k : ℕ) → k < most_entries → (is_on rows k ≡ is_on rows' k) × (is_on columns k ≡ is_on columns' k))
advance_determined low o t after after' r r' rows rows' columns columns' h h' = (
  step_same r r' (h.answer_is ∙ sym h'.answer_is),
  coincide after after' _ h.memory_is h'.memory_is,
  λ k l. (coincide _ _ _ (h.rows_marked k l) (h'.rows_marked k l), coincide _ _ _ (h.columns_marked k l) (h'.columns_marked k l)),
)
