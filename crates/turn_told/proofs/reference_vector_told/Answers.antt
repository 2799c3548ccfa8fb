-- `turn_told::reference_vector_told` meets its contract: refused, or written value by value. Assumes nothing.
use mathlib.Core.Path.{◌∙◌}
use native.Mathlib.Omega.{arith}
use mir.Facts.{to_z-of_z}
use mir.Syntax.{w32}
use mir.Val.{SFits}
use borrow.Author.Rules.{rules}
use Rattle.common.proofs.Numbers.{handed_on, number_above}
use Rattle.vectors.specs.LookUps.{reference_call}
use Rattle.turn_told.specs.Told.{vector_values, reference_told}
use Rattle.answers.proofs.Lengths.{told_refused, told_done}
use Rattle.turn_told.proofs.reference_vector_told.Goals as goal

pub returns-in_err-x : goal.returns-in_err-x
unfolding reference_told reference_call
returns-in_err-x c =
    rw (handed_on _ _ c.from_residual.ensures.1)
    (told_refused _ _ _ c.reference_vector.ensures vector_values c.args.vector.now _ c.in_err-x.ensures.number
    (λ z. omega (arith, number_above c.in_err-x.field-0.0)))

pub returns : goal.returns
unfolding reference_told reference_call
returns c =
    let v = c.in_ok-x.field-0 in
    let fx : SFits w32 v.0 = search rules in
    let fy : SFits w32 v.1 = search rules in
    let fz : SFits w32 v.2 = search rules in
    told_done _ _ _ c.reference_vector.ensures vector_values c.args.vector.now v _
    c.in_ok-x.ensures.values.0 c.in_ok-x.ensures.values.1
    (c.copy_from_slice.ensures.after ∙ rw (to_z-of_z fx, to_z-of_z fy, to_z-of_z fz))
