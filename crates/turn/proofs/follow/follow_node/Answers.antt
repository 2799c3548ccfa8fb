-- `turn::follow::follow_node` meets its contract: refused by the shape, the vector or the node, or followed. Assumes nothing.
use mathlib.Core.Path.{◌≡◌, sym, ap, ◌∙◌}
use native.Mathlib.Omega.{arith}
use Rattle.common.specs.Numbers.{told_number}
use Rattle.common.specs.Refusals.{shape_number, lower}
use Rattle.common.proofs.Limits.{shape_taken}
use Rattle.vectors.specs.Vectors.{sizes}
use Rattle.common.specs.declared.Three.{Three}
use Rattle.common.proofs.Numbers.{handed_told, number_above}
use Rattle.vectors.specs.LookUps.{entries}
use Rattle.turn.specs.Follow.{follow_number}
use Rattle.turn.specs.Working.{node_number, indices_of}
use Rattle.turn.proofs.Follows.{index_number_lem, follow_refused, shape_refused, lower_is, turn_followable, moves_found}
use Rattle.turn.proofs.follow.follow_node.Goals.{After-lower_of}
use Rattle.turn.proofs.follow.follow_node.Goals as goal

pub returns-in_err-shape : goal.returns-in_err-shape
returns-in_err-shape c =
    let a = c.args in
    let some = number_above c.in_err-shape.field-0.0 in
    handed_told _ _ c.from_residual.ensures.1
    ∙ shape_refused a.dimension a.order a.vector a.node _ c.in_err-shape.ensures.number (λ z. omega (arith, some))

-- past the first test the shape is taken, and the node's number is that of its first index
module _ (c : After-lower_of) where
  shape : shape_number c.args.dimension c.args.order ≡ 0
  shape = sym c.in_ok-shape.ensures.number

  indices : c.indices_of-n.result ≡ indices_of c.args.dimension c.args.order c.args.node
  indices = let s = c.in_ok-shape.ensures.shape in rw (s.0, s.1) at c.indices_of-n.ensures

  node : told_number c.check_index.result ≡ node_number c.args.dimension c.args.order c.args.node
  node =
      let a = c.args in
      c.check_index.ensures
      ∙ index_number_lem a.dimension a.order a.node (shape_taken a.dimension a.order shape) _ (ap (λ (n : Three). n.0) indices)

  both : lower (told_number c.find_turn.result) (told_number c.check_index.result)
      ≡ follow_number c.args.dimension c.args.order (sizes (entries c.args.vector)) c.args.node
  both = let a = c.args in lower_is a.dimension a.order a.vector a.node shape _ _ c.find_turn.ensures node

pub returns-in_err-turn : goal.returns-in_err-turn
returns-in_err-turn c =
    let a = c.args in
    let at = (goal.at.returns-in_err-turn c).After-lower_of in
    handed_told _ _ c.from_residual-in_err-turn.ensures.1
    ∙ follow_refused a.dimension a.order a.vector a.node _ (c.in_err-turn.ensures.number ∙ both at)
    (λ z. omega (arith, number_above c.in_err-turn.field-0.0))

pub image_of-requires : goal.image_of-requires
image_of-requires c =
    let a = c.args in
    let at = (goal.at.image_of-requires c).After-lower_of in
    let s = c.in_ok-shape.ensures.shape in
    let values = c.in_ok-turn.ensures.values in
    rw (s.0, s.1, indices at)
    (turn_followable a.dimension a.order a.vector a.node (shape at) c.in_ok-turn.turn (rw values.0 at c.find_turn.ensures)
    (sym (node at) ∙ values.1))

pub origin_of-requires : goal.origin_of-requires
origin_of-requires c =
    let a = c.args in
    let at = (goal.at.origin_of-requires c).After-lower_of in
    let s = c.in_ok-shape.ensures.shape in
    let values = c.in_ok-turn.ensures.values in
    rw (s.0, s.1, indices at)
    (turn_followable a.dimension a.order a.vector a.node (shape at) c.in_ok-turn.turn (rw values.0 at c.find_turn.ensures)
    (sym (node at) ∙ values.1))

pub returns : goal.returns
returns c =
    let a = c.args in
    let at = (goal.at.returns c).After-lower_of in
    let s = c.in_ok-shape.ensures.shape in
    let values = c.in_ok-turn.ensures.values in
    moves_found a.dimension a.order a.vector a.node (shape at) c.in_ok-turn.turn (rw values.0 at c.find_turn.ensures)
    (sym (node at) ∙ values.1) _ _ (rw (s.0, s.1, indices at) at c.image_of.ensures) (rw (s.0, s.1, indices at) at c.origin_of.ensures)
