-- What a step answers, and why a run stops, in numbers.
use Rattle.std.specs.Prelude.{ℕ}
use Rattle.std.specs.declared.ops.ControlFlow.{ControlFlow}
use Rattle.std.specs.declared.ops.ControlFlow.TheVariants.{Continue, Break}
use Rattle.aca_progress.specs.declared.Progress.{Progress}
use Rattle.aca_progress.specs.declared.Stop.{Stop as Reason}
use Rattle.aca_progress.specs.declared.Stop.TheVariants as reason

-- WHY A RUN STOPS: the tolerance is reached; the row that was read has no usable pivot; there are as many terms as the block can
-- give; or every row has been tried

abbrev pub tolerable : ℕ
tolerable = 1

abbrev pub spent : ℕ
spent = 2

abbrev pub used_up : ℕ
used_up = 3

abbrev pub all_tried : ℕ
all_tried = 4

abbrev pub stop_number : Reason → ℕ
stop_number reason.Tolerable = tolerable
stop_number reason.Spent = spent
stop_number reason.UsedUp = used_up
stop_number reason.AllTried = all_tried

-- A step goes on with a state, or it stops for a reason
pub data Step : Type 0 where
  More : Progress → Step
  Stop : (why : ℕ) → Progress → Step

abbrev pub step_of : ControlFlow (Reason × Progress) Progress → Step
step_of (Continue s) = More s
step_of (Break (w, s)) = Stop (stop_number w) s
