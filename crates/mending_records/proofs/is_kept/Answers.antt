-- `mending_records::is_kept` meets its contract: each of the later bytes is compared. Assumes nothing.
use Rattle.mending_lines.proofs.Stored.{kept_at}
use Rattle.mending_records.proofs.is_kept.Goals as goal

pub returns : goal.returns
returns c =
    let a = c.args in
    kept_at a.input.now a.at a.known c.is_same-is_case.ensures c.is_same-is_reference.ensures c.is_same.ensures c.is_same-2.ensures
