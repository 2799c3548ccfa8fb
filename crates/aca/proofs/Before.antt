-- The old mode is the rule as it was before there were modes, on every block and at every epsilon, in all but the smallest pivot. Assumes
-- nothing.
use mathlib.Core.Path.{◌≡◌, refl}
use mathlib.Core.Bool.{false}
use mathlib.Core.List.{List}
use Prim.Native.Nat.{ℕ, zero, suc, ◌+◌, min}
use native.Mathlib.Omega.{arith}
use lib.Ieee.{Float, lt, le}
use Rattle.common.specs.Floats.{times}
use Rattle.common.proofs.Cases.{by_bool, by_eq}
use Rattle.aca_lines.specs.Lines.{norm}
use Rattle.aca_progress.specs.Crosses.{Block, most, Found, row_read, column_read, grown, weighed, stored, onward, without, tiny₆₄, usable}
use Rattle.aca_progress.specs.Crosses.{judged}
use Rattle.aca_progress.specs.Crosses.{accepted, tried, step}
use Rattle.aca_steps.specs.Memories.{Memory, block_of}
use Rattle.aca_progress.specs.declared.Progress.{Progress}
use Rattle.aca_progress.proofs.Ways.{chosen, down, term}
use Rattle.aca.specs.Runs.{Finish, followed, run, begin, start}
use Rattle.aca.specs.Before as before
use Rattle.aca.specs.Facts.{unsaid, unsaid_of, AsBefore}
use Rattle.aca.proofs.Facts.{by_start}

-- with as many steps left as there can be terms
run_before : (b : Block) (tolerance : Float) (n : ℕ) (s : Progress) (f : Found) → n + s.rank ≡ most b →
    unsaid_of (run n false b tolerance s f) ≡ before.run n b tolerance (unsaid s) f
unfolding run followed step tried usable accepted judged onward without before.run before.step before.tried before.accepted before.judged
    weighed grown row_read column_read
run_before b tolerance zero s f e = refl
run_before b tolerance (suc n) s f e =
    let x = down b s f in
    let t = term b s f in
    by_bool (lt (chosen b s f).size tiny₆₄)
    (λ h. rw h)
    (λ h. rw h
    (by_bool (le (norm x.column x.row) (times tolerance t.estimate))
    (λ q. rw q)
    (λ q. rw q
    (by_eq t.rank (most b)
    (λ r z. let none : n ≡ 0 = omega arith in rw (z, none))
    (λ r z. rw z (run_before b tolerance n t (stored x) (omega arith)))))))

pub as_before : (m n : ℕ) (a : List Float) (epsilon : Float) (t : Memory) → AsBefore m n a epsilon t
unfolding before.approximation before.run
as_before m n a epsilon t =
    by_start false m n a epsilon t (λ (e : Finish). unsaid_of e ≡ before.approximation m n a epsilon t)
    (λ z. rw z)
    (λ l. run_before (block_of m n a) (times epsilon epsilon) (min m n) begin (start t) (omega arith))
