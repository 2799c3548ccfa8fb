-- `aca_steps::take_column` meets its contract. Assumes nothing.
use Rattle.aca_steps.proofs.take_column.Goals as goal

pub returns : goal.returns
returns c =
    record {
      value = c.place_on.ensures;
      column_taken = record {
        row_is = c.multiply.ensures;
        column_is = c.read_column.ensures;
        flags_are = c.mark.ensures.flags_after;
        list_is = c.mark.ensures.list_after;
      };
    }
