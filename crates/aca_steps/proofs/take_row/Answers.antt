-- `aca_steps::take_row` meets its contract. Assumes nothing.
use Rattle.aca_steps.proofs.take_row.Goals as goal

pub returns : goal.returns
returns c =
    record {
      value = c.pick_on.ensures;
      row_after = c.read_row.ensures;
      row_flags_after = c.mark.ensures.flags_after;
      row_list_after = c.mark.ensures.list_after;
    }
