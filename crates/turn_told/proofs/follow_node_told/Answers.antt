-- `turn_told::follow_node_told` meets its contract: refused, or written value by value. Assumes nothing.
use mathlib.Core.Path.{◌≡◌, ◌∙◌}
use native.Mathlib.Omega.{arith}
use Rattle.common.specs.Numbers.{told}
use Rattle.common.proofs.Numbers.{handed_on, number_above}
use Rattle.turn.specs.Follow.{follow_call}
use Rattle.turn_told.specs.Told.{moves_values, follow_told}
use Rattle.answers.proofs.Lengths.{told_refused, told_done}
use Rattle.turn_told.proofs.Numbers.{follow_held}
use Rattle.turn_told.proofs.follow_node_told.Goals.{After-with_length}
use Rattle.turn_told.proofs.follow_node_told.Goals as goal

-- what the call is told of the node
answered : (c : After-with_length) →
    let a = c.args in told c.follow_node-found.result ≡ follow_call a.dimension a.order (a.x, a.y, a.z) a.node
answered c =
    let a = c.args in
    c.follow_node-found.ensures ∙ follow_held a.dimension a.order a.x a.y a.z a.node c.ranges.x c.ranges.y c.ranges.z

pub returns-in_err-moves : goal.returns-in_err-moves
unfolding follow_told follow_call
returns-in_err-moves c =
    rw (handed_on _ _ c.from_residual.ensures.1)
    (told_refused _ _ _ (answered (goal.at.returns-in_err-moves c).After-with_length) moves_values c.args.answer.now _
    c.in_err-moves.ensures.number (λ z. omega (arith, number_above c.in_err-moves.field-0.0)))

pub returns : goal.returns
unfolding follow_told follow_call
returns c =
    told_done _ _ _ (answered (goal.at.returns c).After-with_length) moves_values c.args.answer.now c.in_ok-moves.moves _
    c.in_ok-moves.ensures.values.0 c.in_ok-moves.ensures.values.1 c.copy_from_slice.ensures.after
