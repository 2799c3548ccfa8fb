-- Flags that say what is unread: one more is read, the largest entry that is unread, and the row that is read next. Assumes nothing.
use mathlib.Core.Path.{◌≡◌, refl, ap}
use mathlib.Core.Bool.{Bool, true, false, cond}
use mathlib.Core.List.{List, [], ◌∷◌, ◌++◌}
use Prim.Native.Nat.{ℕ, ◌<◌, ◌≤◌}
use native.Mathlib.Omega.{arith}
use lib.Dec.{eqb}
use lib.Ieee.{Float}
use lib.ListN.{length}
use Rattle.common.specs.Refusals.{most_entries}
use Rattle.common.proofs.Cases.{by_bool}
use Rattle.common.proofs.Tests.{lowest_cong}
use Rattle.aca_pivots.specs.Flags.{is_on, all_on, cleared}
use Rattle.aca_pivots.specs.Largest.{argmax, pivot}
use Rattle.aca_pivots.specs.declared.Pivot.{Pivot}
use Rattle.aca_pivots.proofs.Largest.{pivot_cong}
use Rattle.aca_pivots.proofs.Unused.{all_on_lem, on_cleared}
use Rattle.aca_progress.specs.Crosses.{unread, elsewhere, onward, without, judged}
use Rattle.aca_progress.specs.declared.Progress.{Progress}
use Rattle.aca_progress.specs.Working.{RowsKnown}
use Rattle.aca_steps.specs.Standing.{Marks}

pub unread_last : (l : List ℕ) (x k : ℕ) → unread (l ++ x ∷ []) k ≡ cond (eqb k x) false (unread l k)
unfolding unread
unread_last [] x k = refl
unread_last (y ∷ l) x k =
    by_bool (eqb k y) (λ e. rw e (by_bool (eqb k x) (λ f. rw f) (λ f. rw f))) (λ e. rw e (unread_last l x k))

-- flags that are all on say that nothing is read
pub marks_none : Marks all_on []
unfolding unread
marks_none k h = all_on_lem k h

pub marks_more : (flags read : List ℕ) (i : ℕ) → Marks flags read → Marks (cleared flags i) (read ++ i ∷ [])
marks_more flags read i h k b = rw (unread_last read i k, on_cleared flags i k b, h k b)

-- and every row below a row that was below it is read still
pub known_more : (low m : ℕ) (flags : List ℕ) (i : ℕ) → RowsKnown low m flags → RowsKnown low m (cleared flags i)
known_more low m flags i h =
    record {
      some = h.some;
      tall = h.tall;
      low_most = h.low_most;
      below = λ k b. rw (on_cleared flags i k (omega (arith, b, h.low_most, h.tall)), h.below k b)
          (by_bool (eqb k i) (λ e. rw e) (λ e. rw e));
    }

module _ (l : List Float) (flags read : List ℕ) (few : length l ≤ most_entries) (m : Marks flags read) where
  pub pivot_unread : pivot l (is_on flags) ≡ pivot l (unread read)
  pivot_unread = pivot_cong l (is_on flags) (unread read) (λ k b. m k (omega arith))

  pub argmax_unread : argmax l (is_on flags) ≡ argmax l (unread read)
  unfolding pivot
  argmax_unread = ap (λ (p : Pivot). p.place) pivot_unread

-- WHICH ROW COMES NEXT depends on the rows of the block alone

module _ (m : ℕ) (on on' : ℕ → Bool) (same : (k : ℕ) → k < m → on k ≡ on' k) (s : Progress) where
  elsewhere_cong : elsewhere m on s ≡ elsewhere m on' s
  unfolding elsewhere
  elsewhere_cong = rw (lowest_cong m on on' same)

  pub without_cong : (restart : Bool) → without restart m on s ≡ without restart m on' s
  unfolding without
  without_cong false = refl
  without_cong true = elsewhere_cong

  module _ (inside : s.next < m) where
    onward_cong : (restart : Bool) → onward restart m on s ≡ onward restart m on' s
    unfolding onward
    onward_cong false = refl
    onward_cong true = rw (same s.next inside, elsewhere_cong)

    pub judged_cong : (restart : Bool) (k : ℕ) (tolerance g : Float) →
        judged restart m k tolerance g on s ≡ judged restart m k tolerance g on' s
    unfolding judged
    judged_cong restart k tolerance g = rw (onward_cong restart)
