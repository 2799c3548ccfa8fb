-- `fields::tell_air` meets its contract. The loop keeps: the air has been told at the first points of the run. Assumes nothing.
use Rattle.fields.specs.Working.{air_here}
use Rattle.fields.proofs.Points.{Telling}
use Rattle.fields.proofs.tell_air.Given as goal

abbrev pub invariant-loop-i : goal.invariant-loop-i
invariant-loop-i l =
    Telling l.from l.count (air_here l.floor l.carbon_monoxide l.nitrogen l.oxygen) l.initial.answers l.initial.ratios
    l.answers l.ratios l.i
