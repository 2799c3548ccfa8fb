-- `operators::sum_column` meets its contract. The loop keeps: each row has the sum of its first k terms, and t and next are T k
-- and T (k + 1) at the child's node. Assumes nothing.
use mathlib.Core.Path.{◌≡◌, refl, ◌∙◌}
use Prim.Native.Nat.{◌+◌, ◌*◌, ◌≤◌}
use native.Mathlib.Omega.{arith}
use lib.ListN.{length}
use Rattle.polynomial_columns.specs.Recurrence.{T}
use Rattle.operators.specs.Working.{term_of}
use Rattle.common.proofs.Matrices.{column_fits}
use Rattle.common.proofs.Sums.{adding_none, adding_next, adding_all}
use Rattle.operators.proofs.Columns.{T_next}
use Rattle.operators.proofs.sum_column.Goals.{In-loop-k}
use Rattle.operators.proofs.sum_column.Goals as goal

-- column k of the polynomials has its place
room : (c : In-loop-k) → c.loop-k.k * c.args.order + c.args.order ≤ length c.args.polynomials.now
room c = rw c.requires.0 (column_fits c.loop-k.k c.args.order c.args.order _ c.loop-k-test.true refl)

pub fill_with-requires : goal.fill_with-requires
fill_with-requires c = c.requires.1

pub loop-k-init : goal.loop-k-init
unfolding T
loop-k-init c =
    let a = c.args in
    (refl, refl, adding_none a.at a.order (term_of a.order a.polynomials.now a.x) a.operators.now c.requires.1 _ c.fill_with.ensures)

pub add_scaled-requires : goal.add_scaled-requires
add_scaled-requires c =
    (room (goal.at.add_scaled-requires c).In-loop-k, omega (arith, c.loop-k.auto.operators, c.fill_with.auto, c.requires.1))

pub loop-k-preserved : goal.loop-k-preserved
loop-k-preserved c =
    let l = c.loop-k in
    let a = c.args in
    let fits : a.at + a.order ≤ length c.fill_with.new.column = omega (arith, c.fill_with.auto, c.requires.1) in (
      l.invariant.1,
      T_next l.k a.x l.t l.next l.invariant.0 l.invariant.1,
      c.add_scaled.ensures ∙ adding_next a.at a.order (term_of a.order a.polynomials.now a.x) _ fits l.operators l.k _
          l.invariant.2 (λ i b. rw l.invariant.0),
    )

pub returns : goal.returns
returns c =
    let l = c.loop-k in
    let a = c.args in
    let all : l.k ≡ a.order = omega arith in
    adding_all a.at a.order (term_of a.order a.polynomials.now a.x) a.operators.now c.requires.1 _ l.operators
    a.order
    c.fill_with.ensures (rw all at l.invariant.2)
