-- `mending_lines::put_places` meets its contract: one place after the other. Assumes nothing.
use Rattle.mending_lines.proofs.Stored.{four_places}
use Rattle.mending_lines.proofs.put_places.Goals as goal

pub returns-clause-put : goal.returns-clause-put
returns-clause-put c =
    let a = c.args in
    four_places a.input.now a.at a.known a.line.now.to a.line.now.bytes.now
    c.put_place.ensures.put c.put_place-2.ensures.put c.put_place-3.ensures.put c.put_place-4.ensures.put
