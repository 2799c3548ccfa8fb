-- `distances::limits::lengths_fit` meets its contract: field by field. Assumes nothing.
use Rattle.distances.specs.Distances.{lengths_fit}
use Rattle.distances.proofs.limits.lengths_fit.Goals as goal

pub returns : goal.returns
unfolding lengths_fit
returns c = rw c.nodes-rows.ensures at c.eq.ensures
