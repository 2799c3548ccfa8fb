-- `exchange::writing::write_block` meets its contract: what the size, the length or an entry refuses, or the lines. Assumes nothing.
use Rattle.std.proofs.Common.{ℕ, ap, ◌∙◌, arith}
use mathlib.Core.Logic.{inl, inr}
use Rattle.exchange_format.specs.Reading.{Outcome}
use Rattle.exchange_format.specs.Calls.{answered}
use Rattle.exchange_format.proofs.Handed.{handed_fault}
use Rattle.exchange.proofs.Calls.{product_fits}
use Rattle.exchange.proofs.WriteCalls.{rows_over, columns_over, block_other, block_fault, block_long, block_good}
use Rattle.exchange.proofs.writing.write_block.Goals as goal

pub returns-then-rows-gt-MOST_ENTRIES : goal.returns-then-rows-gt-MOST_ENTRIES
returns-then-rows-gt-MOST_ENTRIES c =
    let a = c.args in
    elim c.then-rows-gt-MOST_ENTRIES.either [
      | inl h ↦ rows_over a.rows a.columns a.block.now a.text.now h
      | inr h ↦ columns_over a.rows a.columns a.block.now a.text.now h.1
    ]

pub returns-then-block-rows : goal.returns-then-block-rows
returns-then-block-rows c =
    let a = c.args in
    block_other a.rows a.columns a.block.now a.text.now c.if-rows-gt-MOST_ENTRIES.false c.if-columns-gt-MOST_ENTRIES.false
    c.if-block-rows.true

pub returns-in_err-long : goal.returns-in_err-long
returns-in_err-long c =
    let a = c.args in
    ap (λ (x : Outcome ℕ). (answered (λ (n : ℕ). n) x, a.text.now))
    (handed_fault c.from_residual.result c.in_err-long.field-0.0 c.from_residual.ensures.1) ∙
    block_fault a.rows a.columns a.block.now a.text.now c.if-rows-gt-MOST_ENTRIES.false c.if-columns-gt-MOST_ENTRIES.false
    c.if-block-rows.false _ _ c.in_err-long.ensures

pub write_lines-requires : goal.write_lines-requires
write_lines-requires c =
    let a = c.args in
    let few = c.if-rows-gt-MOST_ENTRIES.false in
    let narrow = c.if-columns-gt-MOST_ENTRIES.false in
    let b = block_long a.rows a.columns a.block.now a.text.now few narrow c.if-block-rows.false c.in_ok-long.long c.in_ok-long.ensures in
    (b.0, omega (arith, b.1, product_fits a.rows a.columns few narrow, c.if-block-rows.false))

pub returns : goal.returns
returns c =
    let a = c.args in
    block_good a.rows a.columns a.block.now a.text.now c.if-rows-gt-MOST_ENTRIES.false c.if-columns-gt-MOST_ENTRIES.false
    c.if-block-rows.false c.in_ok-long.long c.in_ok-long.ensures _ c.write_lines.ensures
