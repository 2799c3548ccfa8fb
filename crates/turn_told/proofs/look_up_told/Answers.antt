-- `turn_told::look_up_told` meets its contract: refused, or written value by value. Assumes nothing.
use mathlib.Core.Path.{◌≡◌, refl, ◌∙◌}
use mathlib.Core.Bool.{Bool, true, false, cond}
use native.Mathlib.Omega.{arith}
use mir.Val.{bool_byte}
use Rattle.common.specs.Numbers.{told}
use Rattle.common.proofs.Numbers.{handed_on, number_above}
use Rattle.vectors.specs.LookUps.{look_up}
use Rattle.turn_told.specs.Told.{known_values, look_up_told}
use Rattle.answers.proofs.Lengths.{told_refused, told_done}
use Rattle.turn_told.proofs.Numbers.{look_held}
use Rattle.turn_told.proofs.look_up_told.Goals.{After-with_length}
use Rattle.turn_told.proofs.look_up_told.Goals as goal

-- what the call is told of the vector
answered : (c : After-with_length) → let a = c.args in told c.look_up.result ≡ look_up a.dimension (a.x, a.y, a.z)
answered c = let a = c.args in c.look_up.ensures ∙ look_held a.dimension a.x a.y a.z c.ranges.x c.ranges.y c.ranges.z

-- a flag as a number is 1 of true and 0 of false
as_number : (t : Bool) → bool_byte t ≡ cond t 1 0
as_number true = refl
as_number false = refl

pub returns-in_err-known : goal.returns-in_err-known
unfolding look_up_told look_up
returns-in_err-known c =
    rw (handed_on _ _ c.from_residual.ensures.1)
    (told_refused _ _ _ (answered (goal.at.returns-in_err-known c).After-with_length) known_values c.args.answer.now _
    c.in_err-known.ensures.number (λ z. omega (arith, number_above c.in_err-known.field-0.0)))

pub returns : goal.returns
unfolding look_up_told look_up
returns c =
    told_done _ _ _ (answered (goal.at.returns c).After-with_length) known_values c.args.answer.now c.in_ok-known.known _
    c.in_ok-known.ensures.values.0 c.in_ok-known.ensures.values.1 (c.copy_from_slice.ensures.after ∙ rw (c.from.ensures, as_number c.in_ok-known.known.near))
