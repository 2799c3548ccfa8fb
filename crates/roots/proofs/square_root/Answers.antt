-- `roots::square_root` meets its contract, by the laws of Signs. Assumes nothing.
use mathlib.Core.Path.{sym, subst}
use lib.Dec.{T}
use lib.Ieee.{Float, nan, binary64, fits, of_bits, div}
use lib.Ieee.Fits.{nan-fits}
use Rattle.roots.specs.Roots.{IsRoot}
use Rattle.roots.specs.Values.{SquareRoot}
use Rattle.roots.proofs.Values.{root_value}
use Rattle.roots.proofs.Signs.{is, is_normal, is_subnormal, of_positive, of_infinite, of_negative, of_zero}
use Rattle.roots.proofs.square_root.Goals.{Start}
use Rattle.roots.proofs.square_root.Goals as goal

held : (c : Start) → T (fits binary64 c.args.x)
held c = subst T (sym c.well_formed.0.1) tt

-- a root that the format holds is the value
answers : (c : Start) (r : Float) → T (fits binary64 r) → IsRoot c.args.x r → SquareRoot c.args.x r
answers c r f h = record { meaning = h; value = root_value c.args.x r (held c) f h }

pub normal_root-requires : goal.normal_root-requires
unfolding of_bits div
normal_root-requires c =
    let x = c.args.x in
    record { above = is_normal x c.if-x.true c.if-x-2.true; normal = is _ c.if-x.true }

pub returns-then-x-2 : goal.returns-then-x-2
unfolding of_bits div
returns-then-x-2 c =
    let x = c.args.x in
    answers (goal.at.returns-then-x-2 c).Start c.normal_root.result (subst T (sym c.normal_root.type_inv) tt)
    (of_positive x c.normal_root.result (is_normal x c.if-x.true c.if-x-2.true) c.normal_root.ensures)

pub returns-then-x : goal.returns-then-x
unfolding of_bits div
returns-then-x c =
    answers (goal.at.returns-then-x c).Start c.args.x (held (goal.at.returns-then-x c).Start) (of_infinite c.args.x c.if-x.true c.if-x-2.false)

pub subnormal_root-requires : goal.subnormal_root-requires
unfolding of_bits div
subnormal_root-requires c =
    let x = c.args.x in
    record { above = is_subnormal x c.if-x.false c.if-x-3.true; subnormal = c.if-x.false }

pub returns-then-x-3 : goal.returns-then-x-3
unfolding of_bits div
returns-then-x-3 c =
    let x = c.args.x in
    answers (goal.at.returns-then-x-3 c).Start c.subnormal_root.result (subst T (sym c.subnormal_root.type_inv) tt)
    (of_positive x c.subnormal_root.result (is_subnormal x c.if-x.false c.if-x-3.true) c.subnormal_root.ensures)

pub returns-then-x-4 : goal.returns-then-x-4
unfolding of_bits div
returns-then-x-4 c = answers (goal.at.returns-then-x-4 c).Start nan (nan-fits binary64) (of_negative c.args.x c.if-x-4.true)

pub returns : goal.returns
unfolding of_bits div
returns c =
    answers (goal.at.returns c).Start c.args.x (held (goal.at.returns c).Start) (of_zero c.args.x c.if-x-3.false c.if-x-4.false)
