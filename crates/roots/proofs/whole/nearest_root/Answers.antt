-- `roots::whole::nearest_root` meets its contract, by the laws of Halves. Assumes nothing.
use native.Mathlib.Omega.{arith}
use Rattle.roots.proofs.Newton.{evened_of}
use Rattle.roots.proofs.Halves.{Known, known, stays, goes_up}
use Rattle.roots.proofs.whole.nearest_root.Goals.{After-floor_root-high}
use Rattle.roots.proofs.whole.nearest_root.Goals as goal

-- what is known of the root that `floor_root` gives
facts : (c : After-floor_root-high) → Known c.args.m c.floor_root-high.result
facts c =
    let a = c.args in
    let e = evened_of a.m a.digits a.odd c.requires in
    known a.m c.floor_root-high.result e.low (omega arith) c.floor_root-high.ensures.below c.floor_root-high.ensures.above

pub overflow_mul-divisor : goal.overflow_mul-divisor
overflow_mul-divisor c = let k = facts (goal.at.overflow_mul-divisor c).After-floor_root-high in omega arith

pub overflow_mul-rest-2 : goal.overflow_mul-rest-2
overflow_mul-rest-2 c = let k = facts (goal.at.overflow_mul-rest-2 c).After-floor_root-high in omega arith

pub overflow_add-whole : goal.overflow_add-whole
overflow_add-whole c = let k = facts (goal.at.overflow_add-whole c).After-floor_root-high in rw k.divisor (omega arith)

pub overflow_mul-low : goal.overflow_mul-low
overflow_mul-low c = let k = facts (goal.at.overflow_mul-low c).After-floor_root-high in rw k.divisor (omega arith)

pub overflow_add-low : goal.overflow_add-low
overflow_add-low c = let k = facts (goal.at.overflow_add-low c).After-floor_root-high in rw k.divisor (omega arith)

pub overflow_mul-left : goal.overflow_mul-left
overflow_mul-left c = let k = facts (goal.at.overflow_mul-left c).After-floor_root-high in rw k.divisor (omega arith)

pub overflow_add-result : goal.overflow_add-result
overflow_add-result c = let k = facts (goal.at.overflow_add-result c).After-floor_root-high in rw k.divisor (omega arith)

pub returns-then-low-whole : goal.returns-then-low-whole
returns-then-low-whole c =
    let k = facts (goal.at.returns-then-low-whole c).After-floor_root-high in
    rw k.divisor (goes_up c.args.m c.floor_root-high.result k (rw k.divisor at c.if-low-whole.true))

pub returns : goal.returns
returns c =
    let k = facts (goal.at.returns c).After-floor_root-high in
    rw k.divisor (stays c.args.m c.floor_root-high.result k (rw k.divisor at c.if-low-whole.false))
