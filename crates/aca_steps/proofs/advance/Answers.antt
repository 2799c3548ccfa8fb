-- `aca_steps::advance` meets its contract: what it does in memory is one step of the rule. Assumes nothing.
use mathlib.Core.Path.{sym, ◌∙◌}
use Rattle.aca_steps.proofs.OneStep.{row_fits, place_in, term_fits, known, stopped, went_on}
use Rattle.aca_steps.proofs.advance.Goals as goal

pub take_row-pivot-requires : goal.take_row-pivot-requires
take_row-pivot-requires c =
    row_fits c.args.samples.now c.args.tolerance c.args.reading c.args.s _ _ _ c.requires

pub is_usable-requires : goal.is_usable-requires
is_usable-requires c =
    let r = c.take_row-pivot in
    place_in c.args.samples.now c.args.tolerance c.args.reading c.args.s _ _ _ c.requires _ _ _ _
    r.ensures.row_after r.ensures.value r.ensures.row_flags_after r.ensures.row_list_after

pub without-requires : goal.without-requires
without-requires c =
    let r = c.take_row-pivot in
    known c.args.samples.now c.args.tolerance c.args.reading c.args.s _ _ _ c.requires _ _ _ _
    r.ensures.row_after r.ensures.value r.ensures.row_flags_after r.ensures.row_list_after

pub returns-then-not-is_usable : goal.returns-then-not-is_usable
returns-then-not-is_usable c =
    let r = c.take_row-pivot in
    stopped c.args.samples.now c.args.tolerance c.args.reading c.args.s _ _ _ c.requires _ _ _ _
    r.ensures.row_after r.ensures.value r.ensures.row_flags_after r.ensures.row_list_after _
    (sym c.is_usable.ensures ∙ c.if-not-is_usable.true) c.without.ensures

pub accept-requires : goal.accept-requires
accept-requires c =
    let r = c.take_row-pivot in (
      term_fits c.args.samples.now c.args.tolerance c.args.reading c.args.s _ _ _ c.requires _ _ _ _
          r.ensures.row_after r.ensures.value r.ensures.row_flags_after r.ensures.row_list_after _ c.note-with_pivot.ensures,
      known c.args.samples.now c.args.tolerance c.args.reading c.args.s _ _ _ c.requires _ _ _ _
          r.ensures.row_after r.ensures.value r.ensures.row_flags_after r.ensures.row_list_after,
    )

pub returns : goal.returns
returns c =
    let r = c.take_row-pivot in
    went_on c.args.samples.now c.args.tolerance c.args.reading c.args.s _ _ _ c.requires _ _ _ _
    r.ensures.row_after r.ensures.value r.ensures.row_flags_after r.ensures.row_list_after
    _ c.note-with_pivot.ensures _ _ c.accept.ensures (sym c.is_usable.ensures ∙ c.if-not-is_usable.false)
