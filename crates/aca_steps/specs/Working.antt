-- What the parts of a step ask of lent memory, and what they leave there.
use Rattle.std.specs.Prelude.{ℕ, ◌+◌, ◌*◌, ◌<◌, ◌≤◌, ◌≡◌, Bool, List, Float, length, get_or, set}
use Rattle.std.specs.Float.{nan}
use Rattle.common.specs.Floats.{over, one₆₄}
use Rattle.common.specs.Refusals.{most_entries}
use Rattle.aca_pivots.specs.Flags.{is_on, cleared}
use Rattle.aca_pivots.specs.Largest.{argmax}
use Rattle.aca_lines.specs.Lines.{column_less, multiplied, as_column, norm, cross}
use Rattle.aca_progress.specs.Crosses.{grown, judged}
use Rattle.aca_progress.specs.declared.Progress.{Progress}
use Rattle.aca_progress.specs.Steps.{Step}

-- THE ROW: row i of so many is read behind k terms, as number `read` of the list
pub record RowFits (samples rows i k read : ℕ) (us vs row : List Float) (list : List ℕ) : Type 0 where
  pub inside : i < rows
  pub tall : rows ≤ most_entries
  pub wide : length row ≤ most_entries
  pub place : read < length list
  pub block : length row * rows ≤ samples
  pub u_long : k * rows ≤ length us
  pub v_long : k * length row ≤ length vs

-- THE TERM: what is lent for a column and the term that it gives
pub record Lent : Type 0 where
  pub us : List Float
  pub vs : List Float
  pub flags : List ℕ
  pub list : List ℕ
  pub row : List Float
  pub column : List Float

abbrev pub lent : (u v : List Float) → (flags list : List ℕ) → (row column : List Float) → Lent
lent u v b j w x = record { us = u; vs = v; flags = b; list = j; row = w; column = x }

-- column j is read behind k terms, and there is room for one more
pub record TermFits (samples k j : ℕ) (t : Lent) : Type 0 where
  pub inside : j < length t.row
  pub tall : length t.column ≤ most_entries
  pub wide : length t.row ≤ most_entries
  pub place : k < length t.list
  pub few : k < most_entries
  pub block : length t.row * length t.column ≤ samples
  pub u_room : k * length t.column + length t.column ≤ length t.us
  pub v_room : k * length t.row + length t.row ≤ length t.vs

-- column j is read: the row is multiplied by 1 over its entry there, and the column is marked
pub record ColumnTaken (samples : List Float) (k j : ℕ) (t : Lent) (row column : List Float) (flags list : List ℕ) : Type 0 where
  pub row_is : row ≡ multiplied (over one₆₄ (get_or t.row j nan)) t.row
  pub column_is : column ≡ column_less (length t.column) (length t.row) samples t.us t.vs k j
  pub flags_are : flags ≡ cleared t.flags j
  pub list_is : list ≡ set t.list k j

-- what is answered after a term u, v, of k at most: `rows` are the flags of the rows
abbrev pub judged_here : (restart : Bool) → (k : ℕ) → (tolerance : Float) → Progress → (us vs u v : List Float) → (rows : List ℕ) → Step
judged_here restart k tolerance s us vs u v rows =
    judged restart (length u) k tolerance (norm u v) (is_on rows)
    (grown s (norm u v) (cross s.rank us vs u v) (argmax u (is_on rows)))

-- and the two are one more term
pub record TermStored (samples : List Float) (tolerance : Float) (restart : Bool) (s : Progress) (j : ℕ) (rows : List ℕ) (t : Lent)
    (answer : Step) (after : Lent) : Type 0 where
  pub taken : ColumnTaken samples s.rank j t after.row after.column after.flags after.list
  pub answer_is : answer ≡ judged_here restart (length t.list) tolerance s t.us t.vs after.column after.row rows
  pub us_are : after.us ≡ as_column s.rank after.column t.us
  pub vs_are : after.vs ≡ as_column s.rank after.row t.vs
