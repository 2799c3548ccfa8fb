-- `lookup::answer_block` is safe: what is written lies within the output. Assumes nothing.
use Rattle.records.proofs.Answers.{written_counts}
use Rattle.lookup.proofs.answer_block.Goals as goal

pub slice_bounds-output-end : goal.slice_bounds-output-end
slice_bounds-output-end g c = (written_counts _ _ _ _ _ c.in-Ok.is c.answer.ensures).0

pub slice_bounds-write_all-end : goal.slice_bounds-write_all-end
slice_bounds-write_all-end g c = (written_counts _ _ _ _ _ c.in-Ok.is c.answer.ensures).1
