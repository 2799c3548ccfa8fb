-- `point_columns::blocks::value_of` meets its contract: by the kind of the block. Assumes nothing.

use Rattle.point_columns.proofs.blocks.value_of.Goals as goal

pub returns-then-is_source : goal.returns-then-is_source
returns-then-is_source c = rw c.if-is_source.true

pub returns : goal.returns
returns c = rw c.if-is_source.false
