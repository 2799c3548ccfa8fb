-- `follow_all::follow_vector` is safe and ends: both tables have their length. Assumes nothing.
use Rattle.std.proofs.Common.{sym, arith, length-take-le}
use Rattle.follow_all.proofs.follow_vector.Goals as goal

pub slice_bounds-follow_tables-end : goal.slice_bounds-follow_tables-end
slice_bounds-follow_tables-end c = sym (length-take-le _ _ (omega arith))

pub slice_bounds-follow_tables-end-in-Ok : goal.slice_bounds-follow_tables-end-in-Ok
slice_bounds-follow_tables-end-in-Ok c = sym (length-take-le _ _ (omega arith))
