-- `aca_lines::terms::norm` meets its contract. Assumes nothing.
use lib.ListN.{length}
use Rattle.aca_lines.specs.Lines.{norm}
use Rattle.aca_lines.proofs.Lines.{whole_in, dot_whole}
use Rattle.aca_lines.proofs.terms.norm.Goals as goal

pub dot-a-requires : goal.dot-a-requires
dot-a-requires c = (whole_in _, whole_in _)

pub dot-b-requires : goal.dot-b-requires
dot-b-requires c = (whole_in _, whole_in _)

pub returns : goal.returns
unfolding norm
returns c =
    let a = c.args in
    let u = a.column.now in
    let v = a.row.now in
    rw (c.dot-a.ensures, c.dot-b.ensures, dot_whole (length u) u u, dot_whole (length v) v v)
