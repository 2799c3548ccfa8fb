-- `vectors::find_turn` meets its contract: refused by its digits, or turned by them. Assumes nothing.
use mathlib.Core.Path.{sym, subst, ap, ◌∙◌}
use native.Mathlib.Omega.{arith}
use Rattle.common.specs.Threes.{Small}
use Rattle.common.specs.declared.Three.{Three}
use Rattle.common.specs.Numbers.{number}
use Rattle.common.proofs.Numbers.{handed_told, number_above}
use Rattle.vectors.specs.LookUps.{turn_of}
use Rattle.vectors.specs.Working.{digits_of, vector_of}
use Rattle.vectors.proofs.Held.{taken, refused_turning, found_turning}
use Rattle.vectors.proofs.find_turn.Goals as goal

pub returns-in_err-digits : goal.returns-in_err-digits
returns-in_err-digits c =
    let r = c.in_err-digits.field-0.0 in
    handed_told _ _ c.from_residual.ensures.1
    ∙ refused_turning c.args.dimension (number r) c.args.vector c.in_err-digits.ensures.number
    (λ e. omega (arith, number_above r))

pub turn_of-requires : goal.turn_of-requires
turn_of-requires c =
    subst (λ (t : Three). Small c.args.dimension 7 t) (sym c.in_ok-digits.ensures.digits)
    (taken c.args.dimension (digits_of c.args.vector) (sym c.in_ok-digits.ensures.number)).0

pub returns : goal.returns
returns c =
    found_turning c.args.dimension c.args.vector c.turn_of.result (sym c.in_ok-digits.ensures.number)
    (c.turn_of.ensures ∙ ap (λ (t : Three). turn_of c.args.dimension (vector_of t)) c.in_ok-digits.ensures.digits)
