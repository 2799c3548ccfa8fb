-- How a run in memory stands for the rule's: the front of the memory after so many rows and terms, and flags for what is unread.
use Rattle.std.specs.Prelude.{ℕ, ◌*◌, ◌<◌, ◌≤◌, min, ◌≡◌, List, Float, length, take}
use Rattle.common.specs.Refusals.{most_entries}
use Rattle.aca_pivots.specs.Flags.{is_on}
use Rattle.aca_progress.specs.Crosses.{Found, unread, Outcome, step}
use Rattle.aca_progress.specs.Working.{RowsKnown}
use Rattle.aca_steps.specs.Memories.{Memory, laid, block_of}
use Rattle.aca_progress.specs.declared.Progress.{Progress}
use Rattle.aca_progress.specs.declared.Reading.{Reading}
use Rattle.aca_progress.specs.Steps.{Step}

-- What has been found after so many rows were read and k terms stored. A row may be read and give no term, so the two are counted
-- apart.
abbrev pub standing : (read k : ℕ) → Memory → Found
standing r k t =
    record {
      us = take (k * length t.column) t.us;
      vs = take (k * length t.row) t.vs;
      rows = take r t.row_list;
      columns = take k t.column_list;
      row = t.row;
      column = t.column;
    }

-- the flags are on at the unread places, and there alone
abbrev pub Marks : (flags read : List ℕ) → Type 0
Marks flags read = (k : ℕ) → k < most_entries → is_on flags k ≡ unread read k

-- the sizes that a run relies on: the column list has a place for each term that the block can give, and there is room for as many
pub record Sizes (samples : ℕ) (t : Memory) : Type 0 where
  pub tall : length t.column ≤ most_entries
  pub wide : length t.row ≤ most_entries
  pub block : length t.row * length t.column ≤ samples
  pub terms : length t.column_list ≡ min (length t.column) (length t.row)
  pub u_room : length t.column_list * length t.column ≤ length t.us
  pub v_room : length t.column_list * length t.row ≤ length t.vs

-- what a step relies on, after so many rows were read, with flags for what is unread
pub record Ready (samples : ℕ) (t : Memory) (g : Reading) (s : Progress) (rows columns : List ℕ) : Type 0 where
  pub sizes : Sizes samples t
  pub place : g.read < length t.row_list
  pub term : s.rank < length t.column_list
  pub few : s.rank < most_entries
  pub row_in : s.next < length t.column
  pub column_in : 0 < length t.row
  pub known : RowsKnown g.low (length t.column) rows
  pub rows_marked : Marks rows (take g.read t.row_list)
  pub columns_marked : Marks columns (take s.rank t.column_list)

-- the step of the rule from where the memory stands
abbrev pub made : (samples : List Float) → (tolerance : Float) → Reading → Progress → Memory → Outcome
made a tolerance g s t =
    step g.restart (block_of (length t.column) (length t.row) a) tolerance s (standing g.read s.rank t)

-- a step in memory: it answers what the rule's does, and leaves what that found; and what was known of the rows still is
pub record Stepped (low : ℕ) (o : Outcome) (t : Memory) (answer : Step) (after : Memory) (rows columns : List ℕ) : Type 0 where
  pub answer_is : answer ≡ o.answer
  pub memory_is : after ≡ laid o.found t
  pub known : RowsKnown low (length t.column) rows
  pub rows_marked : Marks rows o.found.rows
  pub columns_marked : Marks columns o.found.columns
