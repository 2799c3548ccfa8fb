-- `roots::guesses::guess` meets its contract: a base of 25 or 26 digits, and a slope times at most 2 ^ 17. Assumes nothing.
use Prim.Native.Nat.{◌*◌, ◌/◌, ◌≤◌}
use native.Mathlib.Nat.{mul-le-mul}
use native.Mathlib.Omega.{arith}
use Rattle.roots.proofs.guesses.guess.Goals.{After-slope}
use Rattle.roots.proofs.guesses.guess.Goals as goal

rise : (c : After-slope) → c.slope.result * (c.args.digits / 68719476736) ≤ 511 * 131072
rise c =
    let part = c.args.digits / 68719476736 in
    mul-le-mul {n₁ = c.slope.result} {m₁ = part} {n₂ = 511} {m₂ = 131072} (omega arith) (omega arith)

pub overflow_mul-result : goal.overflow_mul-result
overflow_mul-result c = let p = rise (goal.at.overflow_mul-result c).After-slope in omega arith

pub overflow_add-result : goal.overflow_add-result
overflow_add-result c = let p = rise (goal.at.overflow_add-result c).After-slope in omega arith

pub returns : goal.returns
returns c = let p = rise (goal.at.returns c).After-slope in record { low = omega arith; high = omega arith }
