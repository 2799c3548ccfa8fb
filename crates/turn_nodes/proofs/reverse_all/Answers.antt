-- `turn_nodes::reverse_all` meets its contract: index by index. Assumes nothing.
use Rattle.turn_nodes.specs.Working.{reversed_all}
use Rattle.turn_nodes.proofs.reverse_all.Goals as goal

pub reverse-requires : goal.reverse-requires
reverse-requires c = c.requires.0

pub reverse-requires-2 : goal.reverse-requires-2
reverse-requires-2 c = c.requires.1

pub reverse-requires-3 : goal.reverse-requires-3
reverse-requires-3 c = c.requires.2

pub returns : goal.returns
unfolding reversed_all
returns c = rw (c.reverse.ensures, c.reverse-2.ensures, c.reverse-3.ensures)
