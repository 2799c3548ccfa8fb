-- `aca_lines::block::read_row` meets its contract. Assumes nothing.
use Prim.Native.Nat.{◌<◌}
use native.Mathlib.Omega.{arith}
use lib.Arith.{digits_lt}
use lib.ListN.{length}
use Rattle.common.specs.Matrices.{matrix}
use Rattle.aca_lines.proofs.Lines.{residual_is}
use Rattle.aca_lines.proofs.block.read_row.Goals as goal

pub subtract_from-requires : goal.subtract_from-requires
subtract_from-requires c =
    let q = c.requires.i_lt_rows in
    λ k b. let inside : k < length c.args.row.now = omega (arith, b, c.sum_terms.auto.line) in
    omega (arith, digits_lt inside q.0, q.1)

pub returns : goal.returns
returns c =
    let a = c.args in
    let n = length a.row.now in
    residual_is n a.k (matrix a.rows a.samples.now a.i) (matrix n a.v.now) (matrix a.rows a.u.now a.i) _ _
    c.sum_terms.ensures (rw c.sum_terms.auto.line at c.subtract_from.ensures)
