-- `aca_lines::block::read_column` meets its contract: a column is a row of a matrix of one row, from its own place on. Assumes nothing.
use mathlib.Core.Path.{◌≡◌, refl, ap, ◌∙◌}
use Prim.Native.Nat.{ℕ, ◌+◌, ◌*◌, ◌≤◌}
use native.Mathlib.Omega.{arith}
use lib.Ieee.{nan}
use lib.ListN.{length, get_or}
use Rattle.common.specs.Floats.{minus}
use Rattle.common.specs.Matrices.{matrix}
use Rattle.common.proofs.Fill.{tabulate_cong}
use Rattle.common.proofs.Matrices.{column_fits}
use Rattle.aca_lines.proofs.Lines.{residual_is}
use Rattle.aca_lines.proofs.block.read_column.Goals.{After-sum_terms}
use Rattle.aca_lines.proofs.block.read_column.Goals as goal

-- the column lies in the block, and its length stays
module _ (c : After-sum_terms) where
  room : c.args.j * length c.args.column.now + length c.args.column.now ≤ length c.args.samples.now
  room =
      let q = c.requires.j_lt_columns in
      omega (arith, column_fits c.args.j c.args.columns (length c.args.column.now) _ q.0 refl, q.1)

  same : length c.sum_terms.new.line ≡ length c.args.column.now
  same = c.sum_terms.auto.line

pub overflow_mul-j : goal.overflow_mul-j
overflow_mul-j c = let s = (goal.at.overflow_mul-j c).After-sum_terms in rw (same s) (omega (arith, room s, c.well_formed))

pub subtract_from-requires : goal.subtract_from-requires
subtract_from-requires c =
    let s = (goal.at.subtract_from-requires c).After-sum_terms in
    λ k b. rw (same s) (omega (arith, room s, b, same s))

pub returns : goal.returns
returns c =
    let a = c.args in
    let m = length a.column.now in
    let sums = c.sum_terms.new.line in
    let here : (i : ℕ) → i * 1 + a.j * m ≡ a.j * m + i = λ i. omega arith in
    let less = λ (i k : ℕ). minus (get_or a.samples.now k nan) (get_or sums i nan) in
    residual_is m a.k (λ i. matrix m a.samples.now i a.j) (matrix m a.u.now) (matrix a.columns a.v.now a.j) sums _ c.sum_terms.ensures
    ((rw (same (goal.at.returns c).After-sum_terms) at c.subtract_from.ensures)
    ∙ tabulate_cong m (λ i. less i (i * 1 + a.j * m)) (λ i. less i (a.j * m + i)) (λ i b. ap (less i) (here i)))
