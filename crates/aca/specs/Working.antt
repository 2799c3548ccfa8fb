-- How the loop of the run stands for the rule's run.
use Rattle.std.specs.Prelude.{ℕ, ◌≤◌, ◌≡◌, Bool, List, [], Float, length}
use Rattle.aca_steps.specs.Memories.{Memory, laid, block_of}
use Rattle.aca_steps.specs.Standing.{Marks, Sizes}
use Rattle.aca.specs.Runs.{Finish, run, steps_of, begin, report, start}
use Rattle.aca.specs.Reports.{Report}

-- a run that begins: its row list has no more places than the block has rows, and nothing is read
pub record Begun (samples : ℕ) (t : Memory) (rows columns : List ℕ) : Type 0 where
  pub sizes : Sizes samples t
  pub short : length t.row_list ≤ length t.column
  pub rows_marked : Marks rows []
  pub columns_marked : Marks columns []

-- the run of the rule, of as many steps as the row list has places
abbrev pub ran : (samples : List Float) → (tolerance : Float) → (restart : Bool) → Memory → Finish
ran a tolerance restart t =
    run (steps_of (length t.row_list) (length t.column_list)) restart (block_of (length t.column) (length t.row) a) tolerance
    begin (start t)

-- a run in memory: it reports what the rule's does, and leaves what that found
pub record Ran (e : Finish) (t : Memory) (reported : Report) (after : Memory) : Type 0 where
  pub report_is : reported ≡ report e
  pub memory_is : after ≡ laid e.found t
