-- `choices::cutoff::sum_squares` meets its contract: the fold from the end adds as the definition does. Assumes nothing.
use mathlib.Core.Path.{◌∙◌}
use lib.Ieee.{Float}
use Rattle.std.proofs.Common.{rules}
use Rattle.std.proofs.lemmas.Iterator.Adapters.{YieldsList-from_rev_slice}
use Rattle.std.proofs.lemmas.Iterator.Consumers.{fold_from_yields_List}
use Rattle.common.specs.Floats.{plus, times, zero₆₄}
use Rattle.choices.proofs.Tails.{squares_folded}
use Rattle.choices.proofs.cutoff.sum_squares.Goals as goal

pub returns : goal.returns
returns c =
    let values = c.args.values.now in
    fold_from_yields_List _ (λ (s x : Float). plus s (times x x)) zero₆₄ _ c.fold.ensures.ran
    (YieldsList-from_rev_slice values cc) (λ a x b q k. search rules)
    ∙ squares_folded values
