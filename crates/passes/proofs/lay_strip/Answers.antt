-- `passes::lay_strip` meets its contract. The loop keeps: the first k rows are laid. Assumes nothing.
use mathlib.Core.Path.{◌≡◌}
use native.Mathlib.Nat.{not-suc-le-zero}
use native.Mathlib.Omega.{arith}
use Rattle.common.specs.Matrices.{matrix}
use Rattle.passes.specs.Passes.{directed}
use Rattle.passes.proofs.Strips.{lay_more}
use Rattle.passes.proofs.lay_strip.Goals as goal

pub loop-k-init : goal.loop-k-init
loop-k-init c = record { long = omega arith; entries = λ k s h. absurd (not-suc-le-zero h) }

pub lay_row-requires : goal.lay_row-requires
lay_row-requires c =
    let l = c.loop-k in
    (c.requires.0, omega (arith, c.requires), omega (arith, c.requires), c.requires.3)

pub loop-k-preserved : goal.loop-k-preserved
loop-k-preserved c =
    let l = c.loop-k in
    let a = c.args in
    lay_more a.order (directed a.transpose (matrix a.order a.block.now)) a.first l.k l.strip _
    c.requires.0 (omega (arith, c.requires)) l.invariant c.lay_row.ensures

pub returns : goal.returns
returns c =
    let l = c.loop-k in
    let all : l.k ≡ c.args.rows = omega arith in
    rw all at l.invariant
