-- `exchange_writing::wholes::size_in` meets its contract: the cast there and back gives the same bits for a whole number alone. Assumes
-- nothing.
use Rattle.std.proofs.Common.{T, sym, subst}
use lib.Ieee.{of_bits, neg}
use Rattle.exchange_writing.proofs.Floats.{size_same, size_other, size_large, size_below, size_above}
use Rattle.exchange_writing.proofs.Floats.{whole_nan}
use Rattle.exchange_writing.proofs.wholes.size_in.Goals.{else-x-via-then-x+else-x-2, else-x-via-else-x}
use Rattle.exchange_writing.proofs.wholes.size_in.Goals.{else-n-le-MOST_SIZE-via-then-n-le-MOST_SIZE+else-n-x}
use Rattle.exchange_writing.proofs.wholes.size_in.Goals.{else-n-le-MOST_SIZE-via-else-n-le-MOST_SIZE}
use Rattle.exchange_writing.proofs.wholes.size_in.Goals as goal

pub truncating_f64_to_u64-n-requires : goal.truncating_f64_to_u64-n-requires
unfolding of_bits neg
truncating_f64_to_u64-n-requires c = record { lower_bound = subst T (sym c.if-x.true) tt; upper_bound = subst T (sym c.if-x-2.true) tt }

pub float_to_bits-n : goal.float_to_bits-n
float_to_bits-n c = whole_nan c.truncating_f64_to_u64-n.result c.if-n-le-MOST_SIZE.true

pub returns-then-n-x : goal.returns-then-n-x
returns-then-n-x c =
    size_same c.args.x c.truncating_f64_to_u64-n.result (subst T (sym c.well_formed.0.1) tt) c.if-n-le-MOST_SIZE.true c.if-n-x.true

pub returns-else-n-le-MOST_SIZE : goal.returns-else-n-le-MOST_SIZE
returns-else-n-le-MOST_SIZE c =
    let n = c.truncating_f64_to_u64-n in
    elim c.else-n-le-MOST_SIZE.branch [
      | else-n-le-MOST_SIZE-via-then-n-le-MOST_SIZE+else-n-x w ↦
          size_other c.args.x n.result (subst T (sym c.well_formed.0.1) tt) n.ensures w.if-n-x.false
      | else-n-le-MOST_SIZE-via-else-n-le-MOST_SIZE w ↦
          size_large c.args.x n.result (subst T (sym c.well_formed.0.1) tt) n.ensures w.if-n-le-MOST_SIZE.false
    ]

pub returns-else-x : goal.returns-else-x
unfolding of_bits neg
returns-else-x c =
    elim c.else-x.branch [
      | else-x-via-then-x+else-x-2 w ↦ size_above c.args.x w.if-x-2.false
      | else-x-via-else-x w ↦ size_below c.args.x w.if-x.false
    ]
