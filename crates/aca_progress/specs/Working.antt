-- What the decisions of a step rely on, and what they ask in place of the rule's own test.
use Rattle.std.specs.Prelude.{ℕ, ◌<◌, ◌≤◌, ◌≡◌, Bool, false, not, cond, ◌&&◌, List}
use Rattle.std.specs.Float.Ieee.{lt, le}
use Rattle.common.specs.Refusals.{most_entries}
use Rattle.aca_pivots.specs.Flags.{is_on}
use Rattle.aca_pivots.specs.declared.Pivot.{Pivot}
use Rattle.aca_progress.specs.Crosses.{tiny₆₄}

-- what is known of the flags of m rows: every row below this one is read
pub record RowsKnown (low m : ℕ) (flags : List ℕ) : Type 0 where
  pub some : 0 < m
  pub tall : m ≤ most_entries
  pub low_most : low ≤ m
  pub below : (k : ℕ) → k < low → is_on flags k ≡ false

-- the one test that is made of a pivot; `on` holds at the unread columns
abbrev pub usable_here : (restart : Bool) → (on : ℕ → Bool) → Pivot → Bool
usable_here restart on p = cond restart (on p.place && le tiny₆₄ p.size) (not (lt p.size tiny₆₄))
