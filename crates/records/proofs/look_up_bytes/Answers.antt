-- `records::look_up_bytes` meets its contract: the bytes are looked up as signed numbers. Assumes nothing.
use borrow.Author.Rules.{sfits_of}
use mathlib.Core.Path.{ap, ◌∙◌}
use Rattle.vectors.specs.LookUps.{look_up}
use Rattle.records.proofs.SignedBytes.{same_vector}
use Rattle.records.proofs.look_up_bytes.Goals as goal

pub returns : goal.returns
returns c =
    let a = c.args in
    let same =
    same_vector a.x a.y a.z
    (sfits_of c.signed.type_inv) (sfits_of c.signed-2.type_inv) (sfits_of c.signed-3.type_inv)
    c.signed.ensures c.signed-2.ensures c.signed-3.ensures in
    c.look_up.ensures ∙ ap (look_up a.dimension) same
