-- `fields::put_air` meets its contract, arm by arm. Assumes nothing.
use Rattle.fields.proofs.Points.{put_ratio, put_none}
use Rattle.fields.proofs.put_air.Goals as goal

pub returns-in-Ratio : goal.returns-in-Ratio
returns-in-Ratio c =
    let a = c.args in
    put_ratio a.answers.now a.ratios.now a.point _ _ c.number_of.ensures _ c.in-Ratio.is

pub returns-in_default : goal.returns-in_default
returns-in_default c =
    let a = c.args in
    put_none a.answers.now a.ratios.now a.point _ _ c.number_of.ensures c.in_default.not-Ratio
