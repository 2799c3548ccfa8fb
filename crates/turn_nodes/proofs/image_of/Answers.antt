-- `turn_nodes::image_of` meets its contract: the indices, as digits. Assumes nothing.
use mathlib.Core.Path.{◌∙◌}
use Rattle.common.proofs.Threes.{three_digits}
use Rattle.turn_nodes.specs.Working.{image_index}
use Rattle.turn_nodes.proofs.Indices.{image_small}
use Rattle.turn_nodes.proofs.image_of.Goals as goal

pub image_index-requires : goal.image_index-requires
image_index-requires c = c.requires

pub image_index-requires-2 : goal.image_index-requires-2
image_index-requires-2 c = c.requires

pub image_index-requires-3 : goal.image_index-requires-3
image_index-requires-3 c = c.requires

pub number_of-requires : goal.number_of-requires
number_of-requires c =
    let a = c.args in
    image_small a.shape.dimension a.shape.order a.turn a.n c.requires _ _ _ c.image_index.ensures
    c.image_index-2.ensures c.image_index-3.ensures

pub returns : goal.returns
returns c =
    let a = c.args in
    c.number_of.ensures ∙ three_digits a.shape.order a.shape.dimension (image_index a.shape.dimension a.shape.order a.turn a.n) _ _ _
    c.requires.shape.dimension_most c.image_index.ensures c.image_index-2.ensures
    c.image_index-3.ensures
