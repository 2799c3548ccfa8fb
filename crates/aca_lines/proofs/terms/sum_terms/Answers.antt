-- `aca_lines::terms::sum_terms` meets its contract. The loop keeps: each entry has the sum of its first l terms. Assumes nothing.
use mathlib.Core.List.{List}
use mathlib.Core.Path.{◌≡◌, refl, sym, ◌∙◌}
use Prim.Native.Nat.{ℕ, ◌+◌, ◌*◌, ◌≤◌, ◌<◌}
use native.Mathlib.Omega.{arith}
use lib.Arith.{digits_lt}
use lib.Ieee.{Float}
use lib.ListN.{length}
use Rattle.common.specs.Floats.{times, sums}
use Rattle.common.proofs.Fill.{fill_all}
use Rattle.common.proofs.Matrices.{column_fits}
use Rattle.common.proofs.Sums.{adding_none, adding_next, adding_all}
use Rattle.common.specs.Matrices.{matrix}
use Rattle.aca_lines.proofs.terms.sum_terms.Goals.{After-fill_with, In-loop-l}
use Rattle.aca_lines.proofs.terms.sum_terms.Goals as goal

-- THE PLACES, each from the one after it

-- the line as it came and after it was with zeros, and term s of its entry i
module _ (c : After-fill_with) where
  abbrev lent : List Float
  lent = c.args.line.now

  abbrev zeros : List Float
  zeros = c.fill_with.new.column

  zeros_long : length zeros ≡ length lent
  zeros_long = c.fill_with.auto.column

  abbrev term : (i s : ℕ) → Float
  term i s =
      let a = c.args in
      times (matrix (length lent) a.terms.now i s) (matrix a.stride a.factors.now a.at s)

-- the terms and the factor of the next column
module _ (c : In-loop-l) where
  abbrev l : ℕ
  l = c.loop-l.l

  terms_in : l * length c.fill_with.new.column + length c.fill_with.new.column ≤ length c.args.terms.now
  terms_in =
      let n = length c.fill_with.new.column in
      let fits : c.args.k * n ≤ length c.args.terms.now = rw c.fill_with.auto.column c.requires.2 in
      omega (arith, column_fits l c.args.k n _ c.loop-l-test.true refl, fits)

  factor_in : l * c.args.stride + c.args.at < c.args.k * c.args.stride
  factor_in = digits_lt c.loop-l-test.true c.requires.0

pub loop-l-init : goal.loop-l-init
loop-l-init c =
    let p = (goal.at.loop-l-init c).After-fill_with in
    let none = adding_none 0 (length (lent p)) (term p) (lent p) (omega arith) _ c.fill_with.ensures in
    (sym (zeros_long p), omega arith, refl, none)

pub overflow_mul-l : goal.overflow_mul-l
overflow_mul-l c = rw c.loop-l.invariant.0 (omega (arith, c.well_formed, terms_in (goal.at.overflow_mul-l c).In-loop-l))

pub overflow_mul-l-in-loop-l : goal.overflow_mul-l-in-loop-l
overflow_mul-l-in-loop-l c = omega (arith, c.well_formed, c.requires.1, factor_in (goal.at.overflow_mul-l-in-loop-l c).In-loop-l)

pub overflow_add-l : goal.overflow_add-l
overflow_add-l c = omega (arith, c.well_formed, c.requires.1, factor_in (goal.at.overflow_add-l c).In-loop-l)

pub offset_bounds-factors-l : goal.offset_bounds-factors-l
offset_bounds-factors-l c = omega (arith, c.well_formed, c.requires.1, factor_in (goal.at.offset_bounds-factors-l c).In-loop-l)

pub bounds-factors-l : goal.bounds-factors-l
bounds-factors-l c = omega (arith, c.requires.1, factor_in (goal.at.bounds-factors-l c).In-loop-l)

pub add_scaled-requires : goal.add_scaled-requires
add_scaled-requires c =
    let v = c.loop-l.invariant in
    rw v.0 (terms_in (goal.at.add_scaled-requires c).In-loop-l, omega (arith, v.2))

pub loop-l-preserved : goal.loop-l-preserved
loop-l-preserved c =
    let p = (goal.at.loop-l-preserved c).After-fill_with in
    let v = c.loop-l.invariant in
    let s = c.add_scaled in
    let n = length (lent p) in
    let fits : 0 + n ≤ length (zeros p) = omega (arith, zeros_long p) in
    let next = adding_next 0 n (term p) _ fits c.loop-l.line c.loop-l.l _ v.3 (λ i b. refl) in
    (v.0, omega arith, s.auto.column ∙ v.2, s.ensures ∙ next)

pub returns : goal.returns
returns c =
    let p = (goal.at.returns c).After-fill_with in
    let k = c.args.k in
    let all : c.loop-l.l ≡ k = omega (arith, c.loop-l-test.false, c.loop-l.invariant.1) in
    adding_all 0 (length (lent p)) (term p) (lent p) (omega arith) _ _ k c.fill_with.ensures (rw all at c.loop-l.invariant.3)
    ∙ fill_all (length (lent p)) (λ i. sums k (term p i)) (lent p) refl
