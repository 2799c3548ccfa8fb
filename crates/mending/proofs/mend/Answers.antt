-- `mending::mend` meets its contract: an output of another size and a text that does not fit are refused, and otherwise the records are
-- mended. Assumes nothing.
use mathlib.Core.Path.{sym, ◌∙◌}
use native.Mathlib.Omega.{arith}
use Rattle.mending.proofs.Calls.{output_refused, text_refused, call_written}
use Rattle.mending.proofs.mend.Goals.{then-output-input-via-then-output-input}
use Rattle.mending.proofs.mend.Goals.{then-output-input-via-else-output-input+then-not-fits}
use Rattle.mending.proofs.mend.Goals as goal

pub returns-then-output-input : goal.returns-then-output-input
returns-then-output-input c =
    let a = c.args in
    elim c.then-output-input.branch [
      | then-output-input-via-then-output-input w ↦
          output_refused a.input.now a.output.now a.text.now (λ e. w.if-output-input.true (omega arith))
      | then-output-input-via-else-output-input+then-not-fits w ↦
          text_refused a.input.now a.output.now a.text.now (omega arith) (sym (w.if-not-fits.true) ∙ w.fits.ensures)
    ]

pub mend_records-requires : goal.mend_records-requires
mend_records-requires c = omega arith

pub returns : goal.returns
returns c =
    let a = c.args in
    call_written a.input.now a.output.now a.text.now _ _ _ (omega arith) (sym c.if-not-fits.false ∙ c.fits.ensures)
    c.mend_records.ensures.0 c.mend_records.ensures.1
