-- `choices_told::argmax_masked_told` meets its contract: what is told is the place that the call answers. Assumes nothing.
use mathlib.Core.Path.{ap, ◌∙◌}
use mathlib.Core.Option.{Option}
use Prim.Native.Nat.{ℕ}
use Rattle.choices.specs.Argmax.{argmax_call}
use Rattle.choices_told.specs.Told.{argmax_told}
use Rattle.choices_told.specs.Working.{place_told}
use Rattle.choices_told.proofs.Places.{place_told_lem}
use Rattle.choices_told.proofs.argmax_masked_told.Goals as goal

pub returns : goal.returns
unfolding argmax_told argmax_call
returns c =
    let lent = c.args.place.now in
    c.tell_place.ensures
    ∙ ap (λ (x : ℕ × Option ℕ). place_told x lent) c.argmax_masked.ensures
    ∙ place_told_lem _ _ lent
