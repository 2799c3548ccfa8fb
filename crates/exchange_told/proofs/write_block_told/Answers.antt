-- `exchange_told::write_block_told` meets its contract: written into the text, or into none where the count has no room. Assumes
-- nothing.
use borrow.Author.Tests.{eq-eqb, ne_eqb}
use Rattle.exchange_told.proofs.Exchanges.{written_told, unwritten_told}
use Rattle.exchange_told.proofs.write_block_told.Goals as goal

pub returns-then-written-eq1 : goal.returns-then-written-eq1
returns-then-written-eq1 c =
    let a = c.args in
    written_told a.rows a.columns a.block.now a.text.now a.written.now _ _ _ c.tell_written.ensures _
    (eq-eqb _ 1 c.if-written-eq1.true) c.write_block.ensures

pub returns : goal.returns
returns c =
    let a = c.args in
    unwritten_told a.rows a.columns a.block.now a.text.now a.written.now _ _ _ c.tell_written-2.ensures _ _
    (ne_eqb _ 1 c.if-written-eq1.false) c.write_block-2.ensures
