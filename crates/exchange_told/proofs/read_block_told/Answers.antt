-- `exchange_told::read_block_told` meets its contract: read into the block, or into none where the sizes have no room. Assumes
-- nothing.
use borrow.Author.Tests.{eq-eqb, ne_eqb}
use Rattle.exchange_told.proofs.Exchanges.{read_told_lem, unread_told}
use Rattle.exchange_told.proofs.read_block_told.Goals as goal

pub returns-then-sizes-eq2 : goal.returns-then-sizes-eq2
returns-then-sizes-eq2 c =
    let a = c.args in
    read_told_lem a.text.now a.sizes.now _ _ _ c.tell_sizes.ensures a.block.now _ (eq-eqb _ 2 c.if-sizes-eq2.true)
    c.read_block.ensures

pub returns : goal.returns
returns c =
    let a = c.args in
    unread_told a.text.now a.sizes.now _ _ _ c.tell_sizes-2.ensures a.block.now _ _ (ne_eqb _ 2 c.if-sizes-eq2.false)
    c.read_block-2.ensures
