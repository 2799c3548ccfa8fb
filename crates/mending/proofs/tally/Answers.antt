-- `mending::tally` meets its contract: three letters are counted. Assumes nothing.
use Rattle.mending.proofs.Tallies.{told}
use Rattle.mending.specs.Tallies.{tally_of}
use Rattle.mending.proofs.tally.Goals as goal

pub returns : goal.returns
unfolding tally_of
returns c =
    told _ c.count_of.ensures c.count_of-2.ensures c.count_of-3.ensures
