-- `mend::mend_bytes` is safe: what is written lies within the output and the text. Assumes nothing.
use Rattle.mending.proofs.Calls.{said_counts}
use Rattle.mend.proofs.mend_bytes.Goals as goal

pub slice_bounds-deliver-end-3 : goal.slice_bounds-deliver-end-3
slice_bounds-deliver-end-3 c = (said_counts _ _ _ _ _ _ _ c.in-Ok.is c.mend.ensures).0

pub slice_bounds-deliver-end-4 : goal.slice_bounds-deliver-end-4
slice_bounds-deliver-end-4 c = (said_counts _ _ _ _ _ _ _ c.in-Ok.is c.mend.ensures).1
