-- `turn_nodes::origin_of` meets its contract: the indices, as digits. Assumes nothing.
use mathlib.Core.Path.{◌≡◌, ap, ◌∙◌}
use Prim.Native.Nat.{ℕ}
use Rattle.common.specs.declared.Three.{Three}
use Rattle.common.proofs.Threes.{three_digits}
use Rattle.turn_nodes.specs.Working.{reversed_all, origin_index}
use Rattle.turn_nodes.proofs.Indices.{origin_small}
use Rattle.turn_nodes.proofs.origin_of.Goals.{After-origin_index-3}
use Rattle.turn_nodes.proofs.origin_of.Goals as goal

pub reverse_all-back-requires : goal.reverse_all-back-requires
reverse_all-back-requires c = let h = c.requires.below in (h 0, h 1, h 2)

pub origin_index-requires : goal.origin_index-requires
origin_index-requires c = let h = c.requires in (h.shape.dimension_most, h.order)

pub origin_index-requires-2 : goal.origin_index-requires-2
origin_index-requires-2 c = let h = c.requires in (h.shape.dimension_most, h.order)

pub origin_index-requires-3 : goal.origin_index-requires-3
origin_index-requires-3 c = let h = c.requires in (h.shape.dimension_most, h.order)

-- the three indices, by what the reversed ones are
module _ (c : After-origin_index-3) where
  abbrev index : Three → ℕ → ℕ
  index back = origin_index c.args.shape.dimension c.args.turn.order back

  abbrev back : Three
  back = reversed_all c.args.shape.order c.args.turn c.args.n

  by : (m r : ℕ) → r ≡ index c.reverse_all-back.result m → r ≡ index back m
  by m r e = e ∙ ap (λ (b : Three). index b m) c.reverse_all-back.ensures

  first : c.origin_index.result ≡ index back 0
  first = by 0 _ c.origin_index.ensures

  second : c.origin_index-2.result ≡ index back 1
  second = by 1 _ c.origin_index-2.ensures

  third : c.origin_index-3.result ≡ index back 2
  third = by 2 _ c.origin_index-3.ensures

pub number_of-requires : goal.number_of-requires
number_of-requires c =
    let a = c.args in
    origin_small a.shape.dimension a.shape.order a.turn a.n c.requires _ _ _ (first (goal.at.number_of-requires c).After-origin_index-3) (second (goal.at.number_of-requires c).After-origin_index-3) (third (goal.at.number_of-requires c).After-origin_index-3)

pub returns : goal.returns
returns c =
    let a = c.args in
    c.number_of.ensures
    ∙ three_digits a.shape.order a.shape.dimension (origin_index a.shape.dimension a.turn.order (reversed_all a.shape.order a.turn a.n)) _ _ _
    c.requires.shape.dimension_most (first (goal.at.returns c).After-origin_index-3) (second (goal.at.returns c).After-origin_index-3) (third (goal.at.returns c).After-origin_index-3)
