-- `exchange_lines::numbers::size_of` meets its contract: the numbers before the first space and past the spaces. Assumes nothing.
use Rattle.std.proofs.Common.{sym, ap, ◌∙◌}
use Rattle.common.specs.Refusals.{most_entries}
use Rattle.exchange_format.specs.Faults.{found}
use Rattle.exchange_lines.specs.Working.{size_of}
use Rattle.exchange_lines.proofs.Running.{numeral_most}
use Rattle.exchange_lines.proofs.Forms.{size_one_word, size_no_second, size_first, size_second, size_both}
use Rattle.exchange_lines.proofs.numbers.size_of.Goals as goal

pub returns-in_err-end : goal.returns-in_err-end
returns-in_err-end c = ap (found size_of) c.from_residual.ensures ∙ size_one_word c.args.line.now (sym c.find.ensures ∙ c.in_err-end.was)

pub returns-in_err-spaces : goal.returns-in_err-spaces
returns-in_err-spaces c =
    let l = c.args.line.now in
    ap (found size_of) c.from_residual-in_err-spaces.ensures ∙
    size_no_second l c.in_ok-end.end (sym c.find.ensures ∙ c.in_ok-end.was) (sym c.skip.ensures ∙ c.in_err-spaces.was)

pub returns-in_err-rows : goal.returns-in_err-rows
returns-in_err-rows c =
    let l = c.args.line.now in
    ap (found size_of) c.from_residual-in_err-rows.ensures ∙
    size_first l c.in_ok-end.end (sym c.find.ensures ∙ c.in_ok-end.was) c.in_ok-spaces.spaces (sym c.skip.ensures ∙ c.in_ok-spaces.was)
    (sym c.in_err-rows.ensures)

pub returns-in_err-columns : goal.returns-in_err-columns
returns-in_err-columns c =
    let l = c.args.line.now in
    ap (found size_of) c.from_residual-in_err-columns.ensures ∙
    size_second l c.in_ok-end.end (sym c.find.ensures ∙ c.in_ok-end.was) c.in_ok-spaces.spaces (sym c.skip.ensures ∙ c.in_ok-spaces.was)
    c.in_ok-rows.rows (sym c.in_ok-rows.ensures) (sym c.in_err-columns.ensures)

pub invariant_of-result : goal.invariant_of-result
invariant_of-result c =
    record {
      within =
          (numeral_most most_entries _ _ (sym c.in_ok-rows.ensures), numeral_most most_entries _ _ (sym c.in_ok-columns.ensures));
    }

pub returns : goal.returns
returns c =
    let l = c.args.line.now in
    size_both l c.in_ok-end.end (sym c.find.ensures ∙ c.in_ok-end.was) c.in_ok-spaces.spaces (sym c.skip.ensures ∙ c.in_ok-spaces.was)
    c.in_ok-rows.rows (sym c.in_ok-rows.ensures) c.in_ok-columns.columns (sym c.in_ok-columns.ensures)
