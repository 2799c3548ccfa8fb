-- `aca_lines::terms::multiply` meets its contract. The loop keeps: the entries before x are multiplied. Assumes nothing.
use mathlib.Core.Path.{refl}
use Prim.Native.Nat.{ℕ}
use lib.Ieee.{Float, nan}
use lib.ListN.{get_or}
use Rattle.common.specs.Floats.{times}
use Rattle.aca_lines.specs.Lines.{multiplied}
use Rattle.common.proofs.Fill.{filling_none, changing_front, filling_whole}
use Rattle.aca_lines.proofs.terms.multiply.Goals.{Start}
use Rattle.aca_lines.proofs.terms.multiply.Goals as goal

-- what entry k of the line becomes
abbrev becomes : Start → (k : ℕ) → Float
becomes c k = times (get_or c.args.line.now k nan) c.args.factor

pub loop-x-init : goal.loop-x-init
loop-x-init c = filling_none 0 _ (becomes c) _

pub loop-x-preserved : goal.loop-x-preserved
loop-x-preserved c =
    let s = (goal.at.loop-x-preserved c).Start in
    let by = c.args.factor in
    changing_front _ (becomes s) (λ x. times x by) _ _ _ nan _ c.loop-x.invariant c.loop-x-test.true refl refl refl

pub returns : goal.returns
unfolding multiplied
returns c = filling_whole _ (becomes (goal.at.returns c).Start) _ _ _ c.loop-x.invariant c.loop-x-test.false refl
