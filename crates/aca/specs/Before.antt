-- The rule as it was before there were modes, kept as what the old mode is held to (proofs/Before.antt): a run ends after as many steps
-- as the block can give terms, and no step asks which row comes next, or how small a pivot was.
use Rattle.std.specs.Prelude.{ℕ, zero, suc, min, cond, List, Float}
use Rattle.std.specs.Float.Ieee.{lt, le}
use Rattle.common.specs.Floats.{times}
use Rattle.aca_pivots.specs.Largest.{pivot}
use Rattle.aca_lines.specs.Lines.{norm}
use Rattle.aca_pivots.specs.declared.Pivot.{Pivot}
use Rattle.aca_progress.specs.Crosses.{Block, Found, unread, row_read, column_read, weighed, stored, tiny₆₄}
use Rattle.aca_progress.specs.Steps.{tolerable, spent, used_up}
use Rattle.aca_progress.specs.Crosses.{Outcome, outcome}
use Rattle.aca_steps.specs.Memories.{Memory, block_of}
use Rattle.aca_progress.specs.declared.Progress.{Progress}
use Rattle.aca_progress.specs.Steps.{Step, More, Stop}
use Rattle.aca.specs.Runs.{Finish, finish, followed, begin, start}

-- a term whose norm is small against the estimate is the last
unfoldable pub judged : (tolerance norm : Float) → Progress → Step
judged tolerance g s = cond (le g (times tolerance s.estimate)) (Stop tolerable s) (More s)

unfoldable pub accepted : (tolerance : Float) → Progress → Found → Outcome
accepted tolerance s f = outcome (judged tolerance (norm f.column f.row) (weighed s f)) (stored f)

-- a row whose pivot's size is below 2 ^ -52 gives no term; the size of a NaN is below nothing
unfoldable pub tried : Block → (tolerance : Float) → Progress → Found → Pivot → Outcome
tried b tolerance s f p =
    cond (lt p.size tiny₆₄) (outcome (Stop spent s) f) (accepted tolerance s (column_read b s f p.place))

unfoldable pub step : Block → (tolerance : Float) → Progress → Found → Outcome
step b tolerance s f = let r = row_read b s f in tried b tolerance s r (pivot r.row (unread r.columns))

unfoldable pub run : (steps : ℕ) → Block → (tolerance : Float) → Progress → Found → Finish
run zero b tolerance s f = finish used_up s f
run (suc n) b tolerance s f = let o = step b tolerance s f in followed o.answer o.found (run n b tolerance)

unfoldable pub approximation : (m n : ℕ) → (samples : List Float) → (epsilon : Float) → Memory → Finish
approximation m n a epsilon t = run (min m n) (block_of m n a) (times epsilon epsilon) begin (start t)
