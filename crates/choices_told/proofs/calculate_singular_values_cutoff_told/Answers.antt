-- `choices_told::calculate_singular_values_cutoff_told` meets its contract: what is told is the place that the call answers.
-- Assumes nothing.
use mathlib.Core.Path.{ap, ◌∙◌}
use mathlib.Core.Option.{Option}
use Prim.Native.Nat.{ℕ}
use Rattle.choices.specs.Cutoff.{cutoff_call}
use Rattle.choices_told.specs.Told.{cutoff_told}
use Rattle.choices_told.specs.Working.{place_told}
use Rattle.choices_told.proofs.Places.{place_told_lem}
use Rattle.choices_told.proofs.calculate_singular_values_cutoff_told.Goals as goal

pub returns : goal.returns
unfolding cutoff_told cutoff_call
returns c =
    let lent = c.args.place.now in
    c.tell_place.ensures
    ∙ ap (λ (x : ℕ × Option ℕ). place_told x lent) c.calculate_singular_values_cutoff.ensures
    ∙ place_told_lem _ _ lent
