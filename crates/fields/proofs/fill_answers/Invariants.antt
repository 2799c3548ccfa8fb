-- `fields::fill_answers` meets its contract. The loop keeps: the air has been told at the first points. Assumes nothing.
use Prim.Native.Nat.{◌-◌}
use Rattle.fields.specs.Fields.{air_at}
use Rattle.fields.proofs.Points.{Told}
use Rattle.fields.proofs.fill_answers.Given as goal

abbrev pub invariant-loop-point : goal.invariant-loop-point
invariant-loop-point l =
    Told l.rows (air_at l.nodes l.rows l.floor l.values l.carbon_monoxide l.nitrogen l.oxygen) l.initial.answers l.initial.ratios
    l.answers l.ratios l.point

abbrev pub decreases-loop-point : goal.decreases-loop-point
decreases-loop-point l = l.rows - l.point
