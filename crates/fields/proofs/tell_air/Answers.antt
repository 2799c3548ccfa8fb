-- `fields::tell_air` meets its contract. The loop keeps: the air has been told at the first points of the run. Assumes nothing.
use mathlib.Core.Path.{refl}
use Prim.Native.Nat.{◌+◌, ◌<◌}
use native.Mathlib.Omega.{arith}
use lib.ListN.{length}
use Rattle.fields.proofs.Points.{telling_none, telling_more, telling_done}
use Rattle.fields.proofs.tell_air.Goals.{In-loop-i}
use Rattle.fields.proofs.tell_air.Goals as goal

pub loop-i-init : goal.loop-i-init
loop-i-init c = telling_none _ _ _ _ _

-- the start; and the point lies in both lists
module _ (c : In-loop-i) where
  in_answers : c.args.from + c.loop-i.i < length c.loop-i.answers
  in_answers = omega (arith, c.loop-i.invariant.answers.long, c.requires.answers, c.loop-i-test.true)

  in_ratios : c.args.from + c.loop-i.i < length c.loop-i.ratios
  in_ratios = omega (arith, c.loop-i.invariant.ratios.long, c.requires.ratios, c.loop-i-test.true)

pub bounds-carbon_monoxide-i : goal.bounds-carbon_monoxide-i
bounds-carbon_monoxide-i c = omega (arith, c.requires.carbon_monoxide)

pub bounds-nitrogen-i : goal.bounds-nitrogen-i
bounds-nitrogen-i c = omega (arith, c.requires.nitrogen)

pub bounds-oxygen-i : goal.bounds-oxygen-i
bounds-oxygen-i c = omega (arith, c.requires.oxygen)

pub overflow_add-from : goal.overflow_add-from
overflow_add-from c = omega (arith, in_answers (goal.at.overflow_add-from c).In-loop-i)

pub put_air-requires : goal.put_air-requires
put_air-requires c = (in_answers (goal.at.put_air-requires c).In-loop-i, in_ratios (goal.at.put_air-requires c).In-loop-i)

pub loop-i-preserved : goal.loop-i-preserved
loop-i-preserved c =
    let put = c.put_air.ensures in
    let air = c.air_of.ensures in
    telling_more _ _ _ _ _ c.requires.answers c.requires.ratios _ _ _ c.loop-i.invariant _ _ air refl c.loop-i-test.true _ _ put.0
    put.1

pub shape_of-answers : goal.shape_of-answers
shape_of-answers c = c.loop-i.invariant.answers.long

pub shape_of-ratios : goal.shape_of-ratios
shape_of-ratios c = c.loop-i.invariant.ratios.long

pub returns : goal.returns
returns c =
    telling_done _ _ _ _ _ c.requires.answers c.requires.ratios _ _ _ c.loop-i.invariant c.loop-i-test.false
