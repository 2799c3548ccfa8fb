-- `aca_lines::terms::cross` meets its contract. The loop keeps: sum has the products of the terms before l. Assumes nothing.
use mathlib.Core.Path.{◌≡◌, refl, ◌∙◌}
use Prim.Native.Nat.{ℕ}
use native.Mathlib.Omega.{arith}
use lib.Ieee.{Float}
use lib.ListN.{length}
use Rattle.common.specs.Floats.{times, sums}
use Rattle.common.proofs.Matrices.{column_fits}
use Rattle.common.proofs.Sums.{sums_more}
use Rattle.common.specs.Floats.{inner}
use Rattle.common.specs.Matrices.{matrix}
use Rattle.aca_lines.specs.Lines.{entry, cross}
use Rattle.aca_lines.proofs.terms.cross.Goals as goal

pub loop-l-init : goal.loop-l-init
unfolding cross sums
loop-l-init c = (refl, refl, omega arith, refl)

pub overflow_mul-l : goal.overflow_mul-l
overflow_mul-l c =
    let room = column_fits c.loop-l.l c.args.k (length c.args.column.now) _ c.loop-l-test.true refl in
    rw c.loop-l.invariant.0 (omega (arith, room, c.requires.0, c.well_formed))

pub dot_with-a-requires : goal.dot_with-a-requires
dot_with-a-requires c =
    let l = c.loop-l in
    rw l.invariant.0 (omega (arith, column_fits l.l c.args.k (length c.args.column.now) _ c.loop-l-test.true refl, c.requires.0))

pub overflow_mul-l-in-loop-l : goal.overflow_mul-l-in-loop-l
overflow_mul-l-in-loop-l c =
    let room = column_fits c.loop-l.l c.args.k (length c.args.row.now) _ c.loop-l-test.true refl in
    rw c.loop-l.invariant.1 (omega (arith, room, c.requires.1, c.well_formed))

pub dot_with-b-requires : goal.dot_with-b-requires
dot_with-b-requires c =
    let l = c.loop-l in
    rw l.invariant.1 (omega (
      arith,
      column_fits l.l c.args.k (length c.args.row.now) _
          c.loop-l-test.true refl,
      c.requires.1,
    ))

pub loop-l-preserved : goal.loop-l-preserved
unfolding cross
loop-l-preserved c =
    let a = c.args in
    let l = c.loop-l in
    let m = length a.column.now in
    let n = length a.row.now in
    let first : c.dot_with-a.result ≡ inner m (λ i. matrix m a.u.now i l.l) (entry a.column.now) =
    c.dot_with-a.ensures ∙ rw l.invariant.0 in
    let second : c.dot_with-b.result ≡ inner n (λ i. matrix n a.v.now i l.l) (entry a.row.now) =
    c.dot_with-b.ensures ∙ rw l.invariant.1 in
    let u-part : (i : ℕ) → Float = λ i. inner m (λ j. matrix m a.u.now j i) (entry a.column.now) in
    let v-part : (i : ℕ) → Float = λ i. inner n (λ j. matrix n a.v.now j i) (entry a.row.now) in
    (l.invariant.0, l.invariant.1, omega arith, rw (first, second) (sums_more (λ i. times (u-part i) (v-part i)) l.l l.sum l.invariant.3))

pub returns : goal.returns
returns c =
    let l = c.loop-l in
    let all : l.l ≡ c.args.k = omega (arith, c.loop-l-test.false, l.invariant.2) in
    rw all at l.invariant.3
