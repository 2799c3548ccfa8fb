-- `vectors::look_up` meets its contract: refused by its digits, or known by them. Assumes nothing.
use mathlib.Core.Path.{sym, subst, ap, ◌∙◌}
use native.Mathlib.Omega.{arith}
use Rattle.common.specs.Threes.{Small}
use Rattle.common.specs.declared.Three.{Three}
use Rattle.common.specs.Numbers.{number}
use Rattle.common.proofs.Numbers.{handed_told, number_above}
use Rattle.vectors.specs.LookUps.{known_of}
use Rattle.vectors.specs.Working.{digits_of, vector_of, Past}
use Rattle.vectors.proofs.Held.{taken, refused_answer, found_answer}
use Rattle.vectors.proofs.look_up.Goals as goal

pub returns-in_err-digits : goal.returns-in_err-digits
returns-in_err-digits c =
    let r = c.in_err-digits.field-0.0 in
    handed_told _ _ c.from_residual.ensures.1
    ∙ refused_answer c.args.dimension (number r) c.args.vector c.in_err-digits.ensures.number
    (λ e. omega (arith, number_above r))

pub known_of-requires : goal.known_of-requires
known_of-requires c =
    subst (λ (t : Three). Small c.args.dimension 7 t × Past c.args.dimension 3 t) (sym c.in_ok-digits.ensures.digits)
    (taken c.args.dimension (digits_of c.args.vector) (sym c.in_ok-digits.ensures.number))

pub returns : goal.returns
returns c =
    found_answer c.args.dimension c.args.vector c.known_of.result (sym c.in_ok-digits.ensures.number)
    (c.known_of.ensures ∙ ap (λ (t : Three). known_of c.args.dimension (vector_of t)) c.in_ok-digits.ensures.digits)
