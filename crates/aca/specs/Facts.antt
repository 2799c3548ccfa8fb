-- What documents 01 and 02 say of a run, as facts of the definition. proofs/Facts.antt, proofs/Fresh.antt and proofs/Smallest.antt prove
-- them of every block, epsilon and lent memory.
use Rattle.std.specs.Prelude.{ℕ, ◌+◌, ◌*◌, ◌<◌, ◌≤◌, min, ◌≡◌, Bool, true, false, ◌⊎◌, List, ◌++◌, Float, length, get_or, drop}
use Rattle.std.specs.Float.{nan}
use Rattle.std.specs.Float.Ieee.{lt, le, is_nan}
use Rattle.common.specs.Floats.{zero₆₄}
use Rattle.aca_pivots.specs.Facts.{size_at}
use Rattle.aca_progress.specs.Crosses.{Found, unread, tiny₆₄}
use Rattle.aca_progress.specs.Steps.{tolerable, spent, used_up, all_tried}
use Rattle.aca_steps.specs.Memories.{Memory, laid}
use Rattle.aca_progress.specs.declared.Progress.{Progress}
use Rattle.aca.specs.Runs.{Finish, finish, begin, start, listed, report, approximation}
use Rattle.aca.specs.Pivots.{accepted_pivots}
use Rattle.aca.specs.Before as before

-- IN EITHER MODE, of a run that ended with this rank and found this
pub record Facts (restart : Bool) (m n rank : ℕ) (f : Found) (t : Memory) : Type 0 where
  -- as many columns are read as the rank says, and that is at most min(m,n)
  pub columns_read : length f.columns ≡ rank
  pub rank_most : rank ≤ min m n
  -- U and V are filled for the rank's columns, and beyond them stay as lent
  pub us_filled : length f.us ≡ rank * m
  pub vs_filled : length f.vs ≡ rank * n
  pub us_kept : (laid f t).us ≡ f.us ++ drop (rank * m) t.us
  pub vs_kept : (laid f t).vs ≡ f.vs ++ drop (rank * n) t.vs
  -- the rows read are at most min(m,n), and in restart mode at most m
  pub rows_most : length f.rows ≤ listed restart m n

-- IN THE OLD MODE, where it ended for the reason w
pub record OldFacts (m n w rank : ℕ) (f : Found) : Type 0 where
  -- the stop is 1, 2 or 3; and 3 only at rank min(m,n)
  pub stops : (w ≡ tolerable) ⊎ ((w ≡ spent) ⊎ (w ≡ used_up))
  pub full : w ≡ used_up → rank ≡ min m n
  -- the rows read are as many as the rank, or one more at stop 2
  pub rows_read : (w ≡ spent → ⊥) → length f.rows ≡ rank
  pub rows_read_spent : w ≡ spent → length f.rows ≡ rank + 1

-- no number stands twice in a list
abbrev pub Distinct : List ℕ → Type 0
Distinct l = (i j : ℕ) → i < j → j < length l → get_or l i 0 ≡ get_or l j 0 → ⊥

-- IN RESTART MODE
pub record RestartFacts (m n w rank : ℕ) (f : Found) : Type 0 where
  -- no row is read twice, and no column
  pub rows_distinct : Distinct f.rows
  pub columns_distinct : Distinct f.columns
  -- the stop is 1, 3 or 4; 3 only at rank min(m,n), and 4 only where every row has been read
  pub stops : (w ≡ tolerable) ⊎ ((w ≡ used_up) ⊎ (w ≡ all_tried))
  pub full : w ≡ used_up → rank ≡ min m n
  pub all_read : w ≡ all_tried → (i : ℕ) → i < m → unread f.rows i ≡ false

-- THE SMALLEST PIVOT, in either mode: what is reported of the pivots that a run accepted

-- pivot k is a number
pub record Number (pivots : List Float) (k : ℕ) : Type 0 where
  pub inside : k < length pivots
  pub is_number : is_nan (get_or pivots k nan) ≡ false

-- x is the size of one of the pivots, and none of them that is a number is smaller; and it is at least 2 ^ -52
pub record Smallest (pivots : List Float) (x : Float) : Type 0 where
  pub at : ℕ
  pub one_of_them : Number pivots at
  pub its_size : x ≡ size_at pivots at
  pub none_smaller : (k : ℕ) → Number pivots k → lt (size_at pivots k) x ≡ false
  pub large : le tiny₆₄ x ≡ true

pub record PivotFacts (pivots : List Float) (rank : ℕ) (smallest : Float) : Type 0 where
  -- a pivot a term
  pub as_many : length pivots ≡ rank
  -- where some pivot is a number, the smallest of those is told
  pub some_number : (k : ℕ) → Number pivots k → Smallest pivots smallest
  -- where none is, +0.0
  pub no_number : ((k : ℕ) → Number pivots k → ⊥) → smallest ≡ zero₆₄

-- a run with that number left out, as if no pivot had been accepted
abbrev pub unsaid : Progress → Progress
unsaid s = record { estimate = s.estimate; cross = s.cross; smallest = zero₆₄; rank = s.rank; next = s.next }

abbrev pub unsaid_of : Finish → Finish
unsaid_of e = finish e.stop (unsaid e.state) e.found

module _ (m n : ℕ) (samples : List Float) (epsilon : Float) (t : Memory) where
  abbrev pub RunFacts : (restart : Bool) → Type 0
  RunFacts restart = let e = approximation m n samples epsilon restart t in Facts restart m n e.state.rank e.found t

  abbrev pub OldRunFacts : Type 0
  OldRunFacts = let e = approximation m n samples epsilon false t in OldFacts m n e.stop e.state.rank e.found

  abbrev pub RestartRunFacts : Type 0
  RestartRunFacts = let e = approximation m n samples epsilon true t in RestartFacts m n e.stop e.state.rank e.found

  abbrev pub RunPivotFacts : (restart : Bool) → Type 0
  RunPivotFacts restart =
      let r = report (approximation m n samples epsilon restart t) in
      PivotFacts (accepted_pivots m n samples epsilon restart t) r.rank r.smallest

  -- the old mode is the rule as it was before there were modes, in all but the smallest pivot, which was not told then
  abbrev pub AsBefore : Type 0
  AsBefore = unsaid_of (approximation m n samples epsilon false t) ≡ before.approximation m n samples epsilon t

  -- a block with no rows or no columns ends as it began, for the reason 3: rank 0, estimate +0.0, and nothing is read
  abbrev pub NothingRead : (restart : Bool) → Type 0
  NothingRead restart = min m n ≡ 0 → approximation m n samples epsilon restart t ≡ finish used_up begin (start t)
