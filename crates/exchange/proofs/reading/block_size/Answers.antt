-- `exchange::reading::block_size` meets its contract: what the first lines say. Assumes nothing.
use Rattle.std.proofs.Common.{ap, ◌∙◌}
use Rattle.exchange_format.specs.Calls.{answered}
use Rattle.exchange_format.proofs.Handed.{handed_fault}
use Rattle.exchange_lines.specs.Working.{size_of}
use Rattle.exchange.proofs.Calls.{size_unopened, size_opened}
use Rattle.exchange.proofs.reading.block_size.Goals as goal

pub returns-in_err-found : goal.returns-in_err-found
returns-in_err-found c =
    ap (answered size_of) (handed_fault c.from_residual.result c.in_err-found.field-0.0 c.from_residual.ensures.1) ∙
    size_unopened c.args.text.now _ _ c.in_err-found.ensures.means

pub returns : goal.returns
returns c = size_opened c.args.text.now _ c.in_ok-found.ensures.means
