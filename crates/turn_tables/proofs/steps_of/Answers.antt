-- `turn_tables::steps_of` meets its contract: field by field. Assumes nothing.
use Rattle.turn_tables.specs.Working.{steps_of}
use Rattle.turn_tables.proofs.steps_of.Goals as goal

pub returns : goal.returns
unfolding steps_of
returns c = rw (
  c.start_of.ensures,
  c.step_of.ensures,
  c.step_of-2.ensures,
  c.step_of-3.ensures,
)
