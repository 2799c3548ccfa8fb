-- `vectors::turn_of` meets its contract: field by field. Assumes nothing.
use mathlib.Core.Path.{◌≡◌, sym, ap, ◌∙◌}
use Rattle.common.specs.Threes.{three}
use Rattle.common.specs.declared.Three.{Three}
use Rattle.vectors.specs.Order.{axis_order}
use Rattle.vectors.specs.Vectors.{sizes}
use Rattle.vectors.specs.Working.{vector_of}
use Rattle.vectors.proofs.Held.{sizes_small, sizes_held, turn_held}
use Rattle.vectors.proofs.turn_of.Goals as goal

pub axis_order_of-requires : goal.axis_order_of-requires
axis_order_of-requires c =
    rw c.sizes_of.ensures (sizes_small c.args.dimension c.args.d c.requires)

pub returns : goal.returns
returns c =
    let D = c.args.dimension in
    let d = c.args.d in
    let order : c.axis_order_of.result ≡ axis_order D (sizes (vector_of d)) =
    c.axis_order_of.ensures ∙ ap (λ (t : Three). axis_order D (three t)) c.sizes_of.ensures
    ∙ ap (axis_order D) (sym (sizes_held D d c.requires)) in
    turn_held D d c.requires c.axis_order_of.result order
