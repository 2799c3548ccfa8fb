-- `fields::add_two` meets its contract. The loop keeps `Filling`: i points have both terms. Assumes nothing.
use Rattle.common.proofs.Fill.{Filling}
use Rattle.fields.specs.Working.{two_more}
use Rattle.fields.proofs.add_two.Given as goal

abbrev pub invariant-loop-i : goal.invariant-loop-i
invariant-loop-i l = Filling 0 l.count (two_more l.values l.at l.next l.first l.second l.initial.gas) l.initial.gas l.gas l.i
