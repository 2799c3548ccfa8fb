-- `exchange_entries::fill_block` meets its contract. The loop keeps `Filling`, and which lines are left. Assumes nothing.
use mathlib.Core.Path.{◌≡◌, refl, ap, ◌∙◌}
use mathlib.Core.Bool.{true}
use mathlib.Core.List.{List}
use Prim.Native.Nat.{ℕ}
use native.Mathlib.Omega.{arith}
use lib.Ieee.{nan}
use lib.ListN.{length, drop}
use Rattle.common.proofs.Fill.{filling_more, filling_whole}
use Rattle.exchange_format.specs.Lines.{lines}
use Rattle.exchange_format.specs.Words.{entry}
use Rattle.exchange_entries.specs.Working.{line_at, is_fit, value_of, value_at}
use Rattle.exchange_entries.proofs.Checks.{line_here, line_next, fit_inside}
use Rattle.exchange_entries.proofs.fill_block.Goals as goal

pub read_entry-entry-requires : goal.read_entry-entry-requires
read_entry-entry-requires c =
    let here = line_here c.args.text.now c.args.from c.loop-place.at c.loop-place.place-index c.loop-place.invariant.2 in
    let fit : is_fit (entry (line_at c.args.text.now c.loop-place.at)) ≡ true =
    ap (λ (l : List ℕ). is_fit (entry l)) here ∙ c.requires.1 c.loop-place.place-index (omega arith) in
    (fit_inside c.args.text.now c.loop-place.at fit, fit)

pub loop-place-preserved : goal.loop-place-preserved
loop-place-preserved c =
    let a = c.args in
    let y = c.read_entry-entry in
    let here = line_here a.text.now a.from c.loop-place.at c.loop-place.place-index c.loop-place.invariant.2 in (
      filling_more 0 (length a.block.now) (value_at (lines (drop a.from a.text.now))) a.block.now c.loop-place.block
          c.loop-place.place-index c.loop-place.place-index nan y.result.value c.loop-place.invariant.0 (omega arith) (omega arith)
          (omega arith)
          (y.ensures.value ∙ ap (λ (l : List ℕ). value_of (entry l)) here),
      y.ensures.past.within,
      line_next a.text.now a.from c.loop-place.at c.loop-place.place-index c.loop-place.invariant.2 y.result.next y.ensures.past,
    )

pub returns : goal.returns
returns c =
    let a = c.args in
    filling_whole (length a.block.now) (value_at (lines (drop a.from a.text.now))) a.block.now c.loop-place.block c.loop-place.place-index
    c.loop-place.invariant.0 (omega arith) refl
