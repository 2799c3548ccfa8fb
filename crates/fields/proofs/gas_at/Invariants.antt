-- `fields::gas_at` meets its contract. The loop keeps: at each point of the run the sum is that of the first nodes. Assumes
-- nothing.
use Prim.Native.Nat.{◌-◌}
use Rattle.fields.proofs.Points.{Summing}
use Rattle.fields.proofs.gas_at.Given as goal

abbrev pub invariant-loop-node : goal.invariant-loop-node
invariant-loop-node l = Summing l.nodes l.rows l.from l.count l.values l.expansion l.initial.gas l.gas l.node l.at

abbrev pub decreases-loop-node : goal.decreases-loop-node
decreases-loop-node l = l.nodes - l.node
