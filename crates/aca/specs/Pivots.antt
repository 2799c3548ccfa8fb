-- The pivots that a run accepts, in order: of each term that is stored, what stood in its row at the pivot before the row was divided
-- by it.
use Rattle.std.specs.Prelude.{ℕ, zero, suc, min, Bool, cond, List, [], ◌∷◌, ◌++◌, Float, get_or}
use Rattle.std.specs.Float.{nan}
use Rattle.common.specs.Floats.{times}
use Rattle.aca_pivots.specs.Largest.{pivot}
use Rattle.aca_progress.specs.Crosses.{Block, Found, unread, row_read, usable, step}
use Rattle.aca_steps.specs.Memories.{Memory, block_of}
use Rattle.aca_progress.specs.declared.Progress.{Progress}
use Rattle.aca_progress.specs.Steps.{Step, More, Stop}
use Rattle.aca.specs.Runs.{listed, steps_of, begin, start}

-- the pivot of the row that was read last, where it has a usable one
unfoldable pub of_row : (restart : Bool) → Found → List Float
of_row restart f =
    let p = pivot f.row (unread f.columns) in
    cond (usable restart f.row (unread f.columns) p) (get_or f.row p.place nan ∷ []) []

-- after a step: those of the rest of the run, or none
unfoldable pub of_rest : Step → Found → (rest : Progress → Found → List Float) → List Float
of_rest (More s) f rest = rest s f
of_rest (Stop w s) f rest = []

unfoldable pub of_run : (steps : ℕ) → (restart : Bool) → Block → (tolerance : Float) → Progress → Found → List Float
of_run zero restart b tolerance s f = []
of_run (suc n) restart b tolerance s f =
    let o = step restart b tolerance s f in of_row restart (row_read b s f) ++ of_rest o.answer o.found (of_run n restart b tolerance)

unfoldable pub accepted_pivots : (m n : ℕ) → (samples : List Float) → (epsilon : Float) → (restart : Bool) → Memory → List Float
accepted_pivots m n a epsilon restart t =
    of_run (steps_of (listed restart m n) (min m n)) restart (block_of m n a) (times epsilon epsilon) begin (start t)
