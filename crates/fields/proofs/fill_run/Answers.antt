-- `fields::fill_run` meets its contract: the air is told from the gases that were found at the run's points. Assumes nothing.
use mathlib.Core.Path.{◌∙◌}
use Rattle.fields.proofs.Points.{told_same}
use Rattle.fields.proofs.fill_run.Goals as goal

pub returns : goal.returns
returns c =
    let a = c.args in
    c.tell_air.ensures ∙ told_same a.nodes a.rows a.from a.count a.floor a.values.now a.carbon_monoxide.now
    a.nitrogen.now a.oxygen.now _ _ _ _ _ _ c.gas_at.ensures c.gas_at-2.ensures c.gas_at-3.ensures
    a.answers.now a.ratios.now
