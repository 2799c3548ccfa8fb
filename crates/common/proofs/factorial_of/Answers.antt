-- `common::factorial_of` meets its contract: the table's rule. Assumes nothing.
use Rattle.common.proofs.Factorials.{factorial_at}
use Rattle.common.proofs.factorial_of.Goals as goal

pub returns : goal.returns
returns c = factorial_at c.args.n c.requires
