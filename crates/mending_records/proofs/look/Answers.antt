-- `mending_records::look` meets its contract: the record's first four bytes are looked up. Assumes nothing.
use mathlib.Core.Path.{◌∙◌}
use Rattle.mending_lines.proofs.Stored.{found_at}
use Rattle.mending_records.proofs.look.Goals as goal

pub returns : goal.returns
returns c =
    let a = c.args in
    c.look_up_bytes.ensures ∙ found_at a.input.now a.at
