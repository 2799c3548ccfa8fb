-- `exchange_told::block_size_told` meets its contract: what is told is what the call answers. Assumes nothing.
use Rattle.exchange_told.proofs.Exchanges.{size_told_lem}
use Rattle.exchange_told.proofs.block_size_told.Goals as goal

pub returns : goal.returns
returns c =
    let a = c.args in
    size_told_lem a.text.now a.sizes.now _ _ _ c.tell_sizes.ensures c.block_size.ensures
