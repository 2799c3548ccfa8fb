-- `axes::sum_column` meets its contract. The loop keeps: each row has the sum of its first k terms. Assumes nothing.
use mathlib.Core.Path.{◌≡◌, refl, ◌∙◌}
use Prim.Native.Nat.{◌+◌, ◌*◌, ◌<◌, ◌≤◌}
use native.Mathlib.Omega.{arith}
use lib.Arith.{digits_lt}
use lib.ListN.{length}
use Rattle.common.proofs.Matrices.{column_fits}
use Rattle.common.proofs.Sums.{adding_none, adding_next, adding_all}
use Rattle.axes.specs.Axes.{term_of}
use Rattle.axes.proofs.sum_column.Goals.{In-loop-k}
use Rattle.axes.proofs.sum_column.Goals as goal

-- the node's polynomial is one of those lent, and so is the column of polynomial k
inside : (c : In-loop-k) → c.loop-k.k * c.args.order + c.args.node < length c.args.node_polynomials.now
inside c = rw c.requires.2 (digits_lt c.loop-k-test.true c.requires.1)

column : (c : In-loop-k) → c.loop-k.k * c.args.rows + c.args.rows ≤ length c.args.polynomials.now
column c = rw c.requires.0 (column_fits c.loop-k.k c.args.order c.args.rows _ c.loop-k-test.true refl)

pub fill_with-requires : goal.fill_with-requires
fill_with-requires c = c.requires.3

pub loop-k-init : goal.loop-k-init
loop-k-init c =
    let a = c.args in (
      refl,
      adding_none a.at a.rows
          (λ i. term_of a.order a.rows a.polynomials.now a.node_polynomials.now a.node i) a.out.now c.requires.3 _
          c.fill_with.ensures,
    )

pub overflow_mul-factor : goal.overflow_mul-factor
overflow_mul-factor c = omega (arith, inside (goal.at.overflow_mul-factor c).In-loop-k, c.well_formed)

pub overflow_add-factor : goal.overflow_add-factor
overflow_add-factor c = omega (arith, inside (goal.at.overflow_add-factor c).In-loop-k, c.well_formed)

pub loop-k-preserved : goal.loop-k-preserved
loop-k-preserved c =
    let l = c.loop-k in
    let a = c.args in
    let call = c.add_scaled in
    let fits : a.at + a.rows ≤ length c.fill_with.new.column = omega (arith, c.fill_with.auto, c.requires.3) in (
      call.auto.column ∙ l.invariant.0,
      call.ensures ∙ adding_next a.at a.rows (λ i. term_of a.order a.rows a.polynomials.now a.node_polynomials.now
          a.node i) _ fits l.out l.k _ l.invariant.1 (λ i b. refl),
    )

pub shape_of-out : goal.shape_of-out
shape_of-out c = c.loop-k.invariant.0 ∙ c.fill_with.auto.column

pub returns : goal.returns
returns c =
    let l = c.loop-k in
    let a = c.args in
    let all : l.k ≡ a.order = omega arith in
    adding_all a.at a.rows (λ i. term_of a.order a.rows a.polynomials.now a.node_polynomials.now a.node i)
    a.out.now c.requires.3 _ l.out a.order c.fill_with.ensures (rw all at l.invariant.1)
