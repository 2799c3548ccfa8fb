-- `passes::copy_spaced` meets its contract. The loop keeps: k entries are stored. Assumes nothing.
use mathlib.Core.Path.{◌≡◌, refl, ap, ◌∙◌}
use mathlib.Core.List.{List}
use Prim.Native.Nat.{◌+◌, ◌*◌}
use native.Mathlib.Omega.{arith}
use lib.Ieee.{Float}
use lib.ListN.{set}
use Rattle.common.specs.Floats.{spaced}
use Rattle.common.specs.Lists.{stores}
use Rattle.common.proofs.Stores.{stores_more}
use Rattle.passes.proofs.copy_spaced.Goals as goal

pub loop-k-init : goal.loop-k-init
unfolding stores
loop-k-init c = refl

pub overflow_mul-out : goal.overflow_mul-out
overflow_mul-out c = omega (arith, c.requires.0 c.loop-k.k c.loop-k-test.true, c.well_formed)

pub overflow_add-out : goal.overflow_add-out
overflow_add-out c = omega (arith, c.requires.0 c.loop-k.k c.loop-k-test.true, c.well_formed)

pub offset_bounds-source-from : goal.offset_bounds-source-from
offset_bounds-source-from c = omega (arith, c.requires.0 c.loop-k.k c.loop-k-test.true, c.well_formed)

pub bounds-source-from : goal.bounds-source-from
bounds-source-from c = c.requires.0 c.loop-k.k c.loop-k-test.true

pub overflow_mul-out-in-loop-k : goal.overflow_mul-out-in-loop-k
overflow_mul-out-in-loop-k c = omega (
  arith,
  c.requires.1 c.loop-k.k
      c.loop-k-test.true,
  c.well_formed,
)

pub overflow_add-out-in-loop-k : goal.overflow_add-out-in-loop-k
overflow_add-out-in-loop-k c = omega (
  arith,
  c.requires.1 c.loop-k.k
      c.loop-k-test.true,
  c.well_formed,
)

pub offset_bounds-out-at : goal.offset_bounds-out-at
offset_bounds-out-at c = omega (
  arith,
  c.requires.1 c.loop-k.k
      c.loop-k-test.true,
  c.well_formed,
)

pub bounds-out-at : goal.bounds-out-at
bounds-out-at c = rw c.loop-k.auto.out (c.requires.1 c.loop-k.k c.loop-k-test.true)

pub loop-k-preserved : goal.loop-k-preserved
loop-k-preserved c =
    let l = c.loop-k in
    let a = c.args in
    ap (λ (o : List Float). set o (a.at + a.gap * l.k) (spaced a.source.now a.from a.step l.k)) l.invariant
    ∙ stores_more (λ n. a.at + a.gap * n) (spaced a.source.now a.from a.step) l.k a.out.now

pub returns : goal.returns
returns c =
    let all : c.loop-k.k ≡ c.args.count = omega arith in
    rw all at c.loop-k.invariant
