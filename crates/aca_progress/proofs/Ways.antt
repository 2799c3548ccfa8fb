-- A step of the rule, in either mode and without memory: its parts, the ways in which it goes, and how much it finds. Assumes nothing.
use mathlib.Core.Path.{◌≡◌, refl, sym, ◌∙◌}
use mathlib.Core.Bool.{Bool, true, false}
use Prim.Native.Nat.{ℕ, ◌+◌, ◌*◌, ◌<◌, ◌≤◌}
use native.Mathlib.Omega.{arith}
use lib.Ieee.{Float, le}
use lib.ListN.{length, length-append}
use Rattle.common.specs.Floats.{times}
use Rattle.common.specs.Tests.{lowest}
use Rattle.common.proofs.Cases.{by_bool, by_eq, not_both}
use Rattle.common.proofs.Fill.{length_tabulate}
use Rattle.common.proofs.Matrices.{next_column}
use Rattle.common.proofs.Tests.{lowest_most, lowest_holds, lowest_least}
use Rattle.aca_pivots.specs.Largest.{pivot}
use Rattle.aca_lines.specs.Lines.{residual, multiplied, norm}
use Rattle.aca_pivots.specs.declared.Pivot.{Pivot}
use Rattle.aca_pivots.proofs.Largest.{argmax_in}
use Rattle.aca_progress.specs.Crosses.{Block, most, Found, unread, row_read, column_read, noted, grown, weighed, stored}
use Rattle.aca_progress.specs.Crosses.{moved, elsewhere, onward, without, usable, judged, accepted, tried, step}
use Rattle.aca_progress.specs.declared.Progress.{Progress}
use Rattle.aca_progress.specs.Steps.{Step, More, Stop, tolerable, spent, used_up, all_tried}

-- THE PARTS

module _ (b : Block) (s : Progress) (f : Found) where
  -- the row is read; its pivot; the column through it is read; and the state with the pivot and one more term
  abbrev pub across : Found
  across = row_read b s f

  abbrev pub chosen : Pivot
  chosen = pivot across.row (unread across.columns)

  abbrev pub down : Found
  down = column_read b s across chosen.place

  abbrev pub term : Progress
  term = weighed (noted s chosen.size) down

  abbrev pub has : (restart : Bool) → Bool
  has restart = usable restart across.row (unread across.columns) chosen

  pub across_long : length across.row ≡ b.columns
  unfolding row_read residual
  across_long = length_tabulate _ _

  pub column_long : length down.column ≡ b.rows
  unfolding column_read residual
  column_long = length_tabulate _ _

  pub row_long : length down.row ≡ b.columns
  unfolding column_read row_read residual multiplied
  row_long = length_tabulate _ _ ∙ length_tabulate _ _

  -- the row to read next is one of the block's
  pub next_in : 0 < b.rows → term.next < b.rows
  unfolding weighed grown
  next_in some = rw column_long at (argmax_in down.column (unread down.rows) (rw column_long some))

-- THE WAYS

-- all of m rows are read; `on` holds at the unread ones
abbrev pub AllRead : (m : ℕ) → (on : ℕ → Bool) → Type 0
AllRead m on = (i : ℕ) → i < m → on i ≡ false

module _ (P : Step → Type 0) (m : ℕ) (on : ℕ → Bool) (s : Progress) where
  by_elsewhere : (AllRead m on → P (Stop all_tried s)) → ((i : ℕ) → i < m → on i ≡ true → P (More (moved s i))) → P (elsewhere m on s)
  unfolding elsewhere
  by_elsewhere none one =
      by_eq (lowest m on) m
      (λ e t. rw t (none (λ i l. lowest_least m on i (omega arith))))
      (λ g t. rw t
      (let l : lowest m on < m = (let a = lowest_most m on in omega arith) in one (lowest m on) l (lowest_holds m on l)))

  by_onward : (restart : Bool) → (restart ≡ true → AllRead m on → P (Stop all_tried s)) →
      ((i : ℕ) → i < m → (restart ≡ true → on i ≡ true) → P (More (moved s i))) → s.next < m → P (onward restart m on s)
  unfolding onward
  by_onward false none one l = one s.next l (λ e. not_both e refl)
  by_onward true none one l =
      by_bool (on s.next)
      (λ h. rw h (one s.next l (λ _. h)))
      (λ h. rw h (by_elsewhere (none refl) (λ i l' u. one i l' (λ _. u))))

  by_without : (restart : Bool) → (restart ≡ false → P (Stop spent s)) → (restart ≡ true → AllRead m on → P (Stop all_tried s)) →
      (restart ≡ true → (i : ℕ) → i < m → on i ≡ true → P (More (moved s i))) → P (without restart m on s)
  unfolding without
  by_without false stops none one = stops refl
  by_without true stops none one = by_elsewhere (none refl) (one refl)

-- P of what a step answers and of what it has then found, for each way in which it may go
pub record Ways (restart : Bool) (b : Block) (s : Progress) (f : Found) (P : Step → Found → Type 0) : Type 0 where
  -- there is a term: the tolerance is met; or there can be no more; or the run goes on at row i; or it cannot
  pub met : has b s f restart ≡ true → P (Stop tolerable (term b s f)) (stored (down b s f))
  pub full : has b s f restart ≡ true → (term b s f).rank ≡ most b → P (Stop used_up (term b s f)) (stored (down b s f))
  pub further : has b s f restart ≡ true → ((term b s f).rank ≡ most b → ⊥) → (i : ℕ) → i < b.rows →
      (restart ≡ true → unread (across b s f).rows i ≡ true) → P (More (moved (term b s f) i)) (stored (down b s f))
  pub over : has b s f restart ≡ true → restart ≡ true → AllRead b.rows (unread (across b s f).rows) →
      P (Stop all_tried (term b s f)) (stored (down b s f))
  -- there is none: the old mode stops; restart mode goes on at row i, or it cannot
  pub bare : has b s f restart ≡ false → restart ≡ false → P (Stop spent s) (across b s f)
  pub skip : has b s f restart ≡ false → restart ≡ true → (i : ℕ) → i < b.rows → unread (across b s f).rows i ≡ true →
      P (More (moved s i)) (across b s f)
  pub out : has b s f restart ≡ false → restart ≡ true → AllRead b.rows (unread (across b s f).rows) →
      P (Stop all_tried s) (across b s f)

pub by_way : (restart : Bool) (b : Block) (tolerance : Float) (s : Progress) (f : Found) (P : Step → Found → Type 0) → 0 < b.rows →
    Ways restart b s f P → P (step restart b tolerance s f).answer (step restart b tolerance s f).found
unfolding step tried accepted judged column_read
by_way restart b tolerance s f P some w =
    let x = down b s f in
    let t = term b s f in
    let on : ℕ → Bool = unread (across b s f).rows in
    by_bool (has b s f restart)
    (λ h. rw h
    (by_bool (le (norm x.column x.row) (times tolerance t.estimate))
    (λ l. rw l (w.met h))
    (λ l. rw l
    (by_eq t.rank (most b)
    (λ e q. rw q (w.full h e))
    (λ e q. rw q (by_onward (λ (r : Step). P r (stored x)) b.rows on t restart (w.over h) (w.further h e) (next_in b s f some)))))))
    (λ h. rw h (by_without (λ (r : Step). P r (across b s f)) b.rows on s restart (w.bare h) (w.out h) (w.skip h)))

-- HOW MUCH IS FOUND: k terms and r rows read; a column a term, m entries of U and n of V

pub record Counts (b : Block) (r k : ℕ) (f : Found) : Type 0 where
  pub rows_long : length f.rows ≡ r
  pub columns_long : length f.columns ≡ k
  pub us_long : length f.us ≡ k * b.rows
  pub vs_long : length f.vs ≡ k * b.columns

module _ (b : Block) (s : Progress) (f : Found) (r : ℕ) (c : Counts b r s.rank f) where
  pub counts_across : Counts b (r + 1) s.rank (across b s f)
  unfolding row_read
  counts_across =
      record { rows_long = rw (length-append, c.rows_long); columns_long = c.columns_long; us_long = c.us_long; vs_long = c.vs_long }

  pub counts_term : Counts b (r + 1) (s.rank + 1) (stored (down b s f))
  unfolding stored column_read row_read
  counts_term =
      record {
        rows_long = rw (length-append, c.rows_long);
        columns_long = rw (length-append, c.columns_long);
        us_long = length-append f.us (down b s f).column ∙ rw (c.us_long, column_long b s f) (sym (next_column s.rank b.rows));
        vs_long = length-append f.vs (down b s f).row ∙ rw (c.vs_long, row_long b s f) (sym (next_column s.rank b.columns));
      }

-- what a step did that was behind k terms and r rows read: it read a row more, and has no term less; where the run goes on there can
-- be more terms, the row to read next is one of the block's, and in the old mode there is a term more

abbrev pub state_of : Step → Progress
state_of (More s) = s
state_of (Stop w s) = s

abbrev pub Goes : (restart : Bool) → Block → (k : ℕ) → Step → Type 0
Goes restart b k (More s) = (s.rank < most b) × (s.next < b.rows) × (restart ≡ false → s.rank ≡ k + 1)
Goes restart b k (Stop w s) = k ≤ k

pub record Took (restart : Bool) (b : Block) (r k : ℕ) (a : Step) (f : Found) : Type 0 where
  pub counts : Counts b (r + 1) (state_of a).rank f
  pub least : k ≤ (state_of a).rank
  pub goes : Goes restart b k a

pub step_took : (restart : Bool) (b : Block) (tolerance : Float) (s : Progress) (f : Found) (r : ℕ) → s.rank < most b →
    Counts b r s.rank f →
    Took restart b r s.rank (step restart b tolerance s f).answer (step restart b tolerance s f).found
unfolding weighed grown
step_took restart b tolerance s f r below c =
    by_way restart b tolerance s f (Took restart b r s.rank) (omega arith)
    (record {
      met = λ h. record { counts = counts_term b s f r c; least = omega arith; goes = omega arith };
      full = λ h e. record { counts = counts_term b s f r c; least = omega arith; goes = omega arith };
      further = λ h e i l u. record {
        counts = counts_term b s f r c;
        least = omega arith;
        goes = (omega (arith, e), l, λ z. refl);
      };
      over = λ h e a. record { counts = counts_term b s f r c; least = omega arith; goes = omega arith };
      bare = λ h e. record { counts = counts_across b s f r c; least = omega arith; goes = omega arith };
      skip = λ h e i l u. record { counts = counts_across b s f r c; least = omega arith; goes = (below, l, λ z. not_both e z) };
      out = λ h e a. record { counts = counts_across b s f r c; least = omega arith; goes = omega arith };
    })
