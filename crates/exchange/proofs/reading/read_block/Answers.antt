-- `exchange::reading::read_block` meets its contract: what the first lines refuse, a fault among the entries, a block of another length,
-- or the values of the lines. Assumes nothing.
use Rattle.std.proofs.Common.{ap, ◌∙◌}
use Rattle.exchange_format.specs.Reading.{Outcome}
use Rattle.exchange_format.specs.Calls.{answered}
use Rattle.exchange_format.proofs.Handed.{handed_fault}
use Rattle.exchange_lines.specs.declared.sizes.Sizes.{Sizes}
use Rattle.exchange_lines.specs.Working.{size_of, opened_at}
use Rattle.exchange.proofs.Calls.{read_fault, read_length, read_fit, read_good, read_unopened, read_opened}
use Rattle.exchange.proofs.reading.read_block.Goals as goal

pub returns-in_err-found : goal.returns-in_err-found
returns-in_err-found c =
    let a = c.args in
    ap (λ (x : Outcome Sizes). (answered size_of x, a.block.now))
    (handed_fault c.from_residual.result c.in_err-found.field-0.0 c.from_residual.ensures.1) ∙
    read_unopened a.text.now _ _ c.in_err-found.ensures.means a.block.now

pub returns-in_err-check_entries : goal.returns-in_err-check_entries
returns-in_err-check_entries c =
    let a = c.args in
    let f = c.in_ok-found.found in
    let r = c.from_residual-in_err-check_entries in
    ap (λ (x : Outcome Sizes). (answered size_of x, a.block.now))
    (handed_fault r.result c.in_err-check_entries.field-0.0 r.ensures.1) ∙
    read_opened a.text.now (opened_at a.text.now f.sizes f.rest) c.in_ok-found.ensures.means a.block.now _
    (read_fault (opened_at a.text.now f.sizes f.rest) a.block.now _ _ c.in_err-check_entries.ensures)

pub returns-then-block-count : goal.returns-then-block-count
returns-then-block-count c =
    let a = c.args in
    let f = c.in_ok-found.found in
    let o = opened_at a.text.now f.sizes f.rest in
    read_opened a.text.now o c.in_ok-found.ensures.means a.block.now _
    (read_length o a.block.now c.in_ok-check_entries.ensures c.if-block-count.true)

pub fill_block-requires : goal.fill_block-requires
fill_block-requires c =
    let a = c.args in
    let f = c.in_ok-found.found in
    let o = opened_at a.text.now f.sizes f.rest in
    (c.in_ok-found.ensures.sound.within, read_fit o a.block.now c.in_ok-check_entries.ensures c.if-block-count.false)

pub returns : goal.returns
returns c =
    let a = c.args in
    let f = c.in_ok-found.found in
    let o = opened_at a.text.now f.sizes f.rest in
    read_opened a.text.now o c.in_ok-found.ensures.means a.block.now _
    (read_good o a.block.now c.in_ok-check_entries.ensures c.if-block-count.false c.fill_block.new.block c.fill_block.ensures)
