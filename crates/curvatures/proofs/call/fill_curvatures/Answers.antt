-- `curvatures::call::fill_curvatures` meets its contract: S, S' and S'' of all axes, and then their products. Assumes nothing.
use mathlib.Core.Path.{ap, ◌∙◌}
use Prim.Native.Nat.{◌*◌}
use lib.ListN.{length}
use Rattle.common.specs.Matrices.{matrix}
use Rattle.common.proofs.Matrices.{column_length}
use Rattle.curvatures.specs.declared.Lengths.{Lengths}
use Rattle.curvatures.proofs.Products.{memory_right}
use Rattle.curvatures.proofs.call.fill_curvatures.Goals as goal

pub fill_bent_axes-requires : goal.fill_bent_axes-requires
fill_bent_axes-requires c =
    let p = c.requires in
    record {
      points = ap (λ (l : Lengths). l.coordinates) p;
      polynomials = ap (λ (l : Lengths). l.polynomials) p;
      room = ap (λ (l : Lengths). l.room) p;
      factors = ap (λ (l : Lengths). l.factors) p;
      slopes = ap (λ (l : Lengths). l.slopes) p;
      bends = ap (λ (l : Lengths). l.bends) p;
    }

pub fill_pairs-requires : goal.fill_pairs-requires
fill_pairs-requires c =
    let a = c.args in
    let e = c.fill_bent_axes.ensures in
    let P = a.grid.rows in
    let n = a.grid.shape.dimension * a.grid.shape.order in (
      record {
        long_factors = ap length e.1 ∙ column_length P _ n;
        long_slopes = ap length e.2 ∙ column_length P _ n;
        long_bends = ap length e.3 ∙ column_length P _ n;
      },
      ap (λ (l : Lengths). l.curvatures) c.requires,
    )

pub returns : goal.returns
returns c =
    let a = c.args in
    let h = a.grid.shape.taken in
    let e = c.fill_bent_axes.ensures in
    memory_right a.grid.shape.dimension a.grid.shape.order a.grid.rows a.grid.side a.node_polynomials.now
    (matrix a.grid.rows a.coordinates.now) h.order_least h.dimension_most _ _ _ e.1 e.2 e.3 _ _
    c.fill_pairs.ensures e.0
