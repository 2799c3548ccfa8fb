-- A run reads nothing outside the rows and the columns that it lists, in either mode (request E9): blocks that agree there give one run.
-- One proof for both modes: it never looks at the mode. Assumes nothing.
use mathlib.Core.Path.{◌≡◌, refl, sym, ap, subst, ◌∙◌}
use mathlib.Core.Bool.{Bool, true, false}
use mathlib.Core.List.{List, [], ◌∷◌, ◌++◌}
use Prim.Native.Nat.{ℕ, zero, suc, ◌<◌, min}
use native.Mathlib.Omega.{arith}
use lib.Dec.{eqb}
use lib.Ieee.{Float, nan}
use lib.ListN.{length, get_or}
use Rattle.common.specs.Floats.{times, minus, over, inner, one₆₄}
use Rattle.common.specs.Matrices.{matrix}
use Rattle.common.proofs.Cases.{by_bool, by_eq, not_both}
use Rattle.common.proofs.Fill.{tabulate_cong}
use Rattle.aca_pivots.specs.Largest.{pivot}
use Rattle.aca_lines.specs.Lines.{residual, multiplied}
use Rattle.aca_pivots.specs.declared.Pivot.{Pivot}
use Rattle.aca_progress.specs.Crosses.{Block, Found, found, unread, row_read, column_read, usable, stored, judged, accepted, tried, step}
use Rattle.aca_progress.specs.Crosses.{Outcome}
use Rattle.aca_steps.specs.Memories.{Memory, block_of}
use Rattle.aca_progress.specs.declared.Progress.{Progress}
use Rattle.aca_progress.specs.Steps.{Step, More, Stop}
use Rattle.aca_steps.proofs.Marked.{unread_last}
use Rattle.aca_progress.proofs.Ways.{across, chosen, has}
use Rattle.aca.specs.Runs.{followed, run, begin, start, listed, steps_of, approximation, aca_call}
use Rattle.aca.specs.Unseen.{SameRow, SameColumn, Agree, Unseen, FilledLate}
use Rattle.aca.proofs.Facts.{Next, by_run}
use Rattle.aca.proofs.Determined.{aca_partial_pivoting_determined}

-- WHAT IS LISTED

read_last : (l : List ℕ) (x : ℕ) → unread (l ++ x ∷ []) x ≡ false
read_last l x = by_eq x x (λ _ e. rw (unread_last l x x, e)) (λ g _. absurd (g refl))

read_still : (l : List ℕ) (x k : ℕ) → unread l k ≡ false → unread (l ++ x ∷ []) k ≡ false
read_still l x k h = rw (unread_last l x k, h) (by_bool (eqb k x) (λ e. rw e) (λ e. rw e))

-- where a number stands in a list
record Place (l : List ℕ) (i : ℕ) : Type 0 where
  at : ℕ
  inside : at < length l
  here : get_or l at 0 ≡ i

placed : (l : List ℕ) (i : ℕ) → unread l i ≡ false → Place l i
unfolding unread
placed [] i h = not_both refl h
placed (x ∷ l) i h =
    by_eq i x
    (λ e _. record { at = 0; inside = omega arith; here = sym e })
    (λ _ t. let p = placed l i (rw t at h) in record { at = suc p.at; inside = omega (arith, p.inside); here = p.here })

module _ (restart : Bool) (b : Block) (tolerance : Float) where
  -- a step lists its row, and the column of a pivot that it uses
  step_rows : (s : Progress) (f : Found) → (step restart b tolerance s f).found.rows ≡ f.rows ++ s.next ∷ []
  unfolding step tried accepted stored column_read row_read
  step_rows s f = by_bool (has b s f restart) (λ h. rw h) (λ h. rw h)

  step_columns : (s : Progress) (f : Found) → has b s f restart ≡ true →
      (step restart b tolerance s f).found.columns ≡ f.columns ++ (chosen b s f).place ∷ []
  unfolding step tried accepted stored column_read row_read
  step_columns s f h = rw h

  step_no_column : (s : Progress) (f : Found) → has b s f restart ≡ false → (step restart b tolerance s f).found.columns ≡ f.columns
  unfolding step tried row_read
  step_no_column s f h = rw h

  -- what is listed stays listed
  abbrev RowListed : (i n : ℕ) → Progress → Found → Type 0
  RowListed i n s f = unread f.rows i ≡ false

  abbrev ColumnListed : (j n : ℕ) → Progress → Found → Type 0
  ColumnListed j n s f = unread f.columns j ≡ false

  row_next : (i n : ℕ) (r : Step) (f : Found) → unread f.rows i ≡ false → Next restart b tolerance (RowListed i) (RowListed i) n r f
  row_next i n (More s) f h = h
  row_next i n (Stop w s) f h = h

  column_next : (j n : ℕ) (r : Step) (f : Found) → unread f.columns j ≡ false →
      Next restart b tolerance (ColumnListed j) (ColumnListed j) n r f
  column_next j n (More s) f h = h
  column_next j n (Stop w s) f h = h

  rows_stay : (n : ℕ) (s : Progress) (f : Found) (i : ℕ) → unread f.rows i ≡ false →
      unread (run n restart b tolerance s f).found.rows i ≡ false
  rows_stay n s f i h =
      by_run restart b tolerance (RowListed i) (RowListed i)
      (λ k s' f' g. let o = step restart b tolerance s' f' in
      row_next i k o.answer o.found (rw (step_rows s' f') (read_still f'.rows s'.next i g)))
      (λ s' f' g. g) n s f h

  columns_stay : (n : ℕ) (s : Progress) (f : Found) (j : ℕ) → unread f.columns j ≡ false →
      unread (run n restart b tolerance s f).found.columns j ≡ false
  columns_stay n s f j h =
      by_run restart b tolerance (ColumnListed j) (ColumnListed j)
      (λ k s' f' g. let o = step restart b tolerance s' f' in
      column_next j k o.answer o.found
      (by_bool (has b s' f' restart)
      (λ t. rw (step_columns s' f' t) (read_still f'.columns (chosen b s' f').place j g))
      (λ t. rw (step_no_column s' f' t) g)))
      (λ s' f' g. g) n s f h

-- TWO BLOCKS OF ONE SIZE

-- a residual asks for the entries of its own line, and no others
line_same : (n k : ℕ) (line line' : ℕ → Float) (terms : ℕ → ℕ → Float) (factors : ℕ → Float) → ((c : ℕ) → c < n → line c ≡ line' c) →
    residual n k line terms factors ≡ residual n k line' terms factors
unfolding residual
line_same n k line line' terms factors h = tabulate_cong n _ _ (λ c l. ap (λ (z : Float). minus z (inner k (terms c) factors)) (h c l))

module _ (m n : ℕ) (a b : List Float) where
  abbrev one : Block
  one = block_of m n a

  abbrev other : Block
  other = block_of m n b

  -- they agree on what is listed, said of numbers and not of places: so it stays true as the lists grow
  record Shared (f : Found) : Type 0 where
    on_rows : (i : ℕ) → unread f.rows i ≡ false → SameRow m n a b i
    on_columns : (j : ℕ) → unread f.columns j ≡ false → SameColumn m n a b j

  row_same : (s : Progress) (f : Found) → SameRow m n a b s.next → row_read one s f ≡ row_read other s f
  unfolding row_read
  row_same s f h =
      ap (λ (w : List Float). found f.us f.vs (f.rows ++ s.next ∷ []) f.columns w f.column)
      (line_same n s.rank (matrix m a s.next) (matrix m b s.next) (matrix n f.vs) (matrix m f.us s.next) h)

  column_same : (s : Progress) (f : Found) (j : ℕ) → SameColumn m n a b j → column_read one s f j ≡ column_read other s f j
  unfolding column_read
  column_same s f j h =
      ap (found f.us f.vs f.rows (f.columns ++ j ∷ []) (multiplied (over one₆₄ (get_or f.row j nan)) f.row))
      (line_same m s.rank (λ i. matrix m a i j) (λ i. matrix m b i j) (matrix m f.us) (matrix n f.vs j) h)

  module _ (restart : Bool) (tolerance : Float) where
    tried_same : (s : Progress) (f : Found) (p : Pivot) →
        (usable restart f.row (unread f.columns) p ≡ true → SameColumn m n a b p.place) →
        tried restart one tolerance s f p ≡ tried restart other tolerance s f p
    unfolding tried accepted judged
    tried_same s f p h =
        by_bool (usable restart f.row (unread f.columns) p)
        (λ e. rw (e, column_same s f p.place (h e)))
        (λ e. rw e)

    step_same : (s : Progress) (f : Found) → Shared (step restart one tolerance s f).found →
        step restart one tolerance s f ≡ step restart other tolerance s f
    unfolding step
    step_same s f g =
        let r : SameRow m n a b s.next =
        g.on_rows s.next (rw (step_rows restart one tolerance s f) (read_last f.rows s.next)) in
        tried_same s (across one s f) (chosen one s f)
        (λ e. g.on_columns (chosen one s f).place
        (rw (step_columns restart one tolerance s f e) (read_last f.columns (chosen one s f).place)))
        ∙ ap (λ (z : Found). tried restart other tolerance s z (pivot z.row (unread z.columns))) (row_same s f r)

    -- agreement on what the rest of a run lists is agreement on what was listed before
    shared_before : (k : ℕ) (r : Step) (f : Found) → Shared (followed r f (run k restart one tolerance)).found → Shared f
    unfolding followed
    shared_before k (More s) f g =
        record {
          on_rows = λ i h. g.on_rows i (rows_stay restart one tolerance k s f i h);
          on_columns = λ j h. g.on_columns j (columns_stay restart one tolerance k s f j h);
        }
    shared_before k (Stop w s) f g = g

    followed_same : (k : ℕ) (r : Step) (f : Found) →
        ((s : Progress) (f : Found) → Shared (run k restart one tolerance s f).found →
        run k restart one tolerance s f ≡ run k restart other tolerance s f) →
        Shared (followed r f (run k restart one tolerance)).found →
        followed r f (run k restart one tolerance) ≡ followed r f (run k restart other tolerance)
    unfolding followed
    followed_same k (More s) f same g = same s f g
    followed_same k (Stop w s) f same g = refl

    run_same : (k : ℕ) (s : Progress) (f : Found) → Shared (run k restart one tolerance s f).found →
        run k restart one tolerance s f ≡ run k restart other tolerance s f
    unfolding run
    run_same zero s f g = refl
    run_same (suc k) s f g =
        let o = step restart one tolerance s f in
        followed_same k o.answer o.found (λ s' f'. run_same k s' f') g
        ∙ ap (λ (z : Outcome). followed z.answer z.found (run k restart other tolerance))
        (step_same s f (shared_before k o.answer o.found g))

-- THE THEOREM

module _ (m n : ℕ) (a b : List Float) (epsilon : Float) (restart : Bool) (t : Memory) where
  whole_same : Agree m n a b (approximation m n a epsilon restart t).found →
      approximation m n a epsilon restart t ≡ approximation m n b epsilon restart t
  unfolding approximation
  whole_same g =
      run_same m n a b restart (times epsilon epsilon) (steps_of (listed restart m n) (min m n)) begin (start t)
      (record {
        on_rows = λ i h. let p = placed _ i h in subst (SameRow m n a b) p.here (g.rows_agree p.at p.inside);
        on_columns = λ j h. let p = placed _ j h in subst (SameColumn m n a b) p.here (g.columns_agree p.at p.inside);
      })

  call_same : Agree m n a b (approximation m n a epsilon restart t).found → length a ≡ length b →
      aca_call m n a epsilon restart t ≡ aca_call m n b epsilon restart t
  unfolding aca_call
  call_same g e = rw (whole_same g, e)

  pub unseen : Unseen m n a b epsilon restart t
  unseen g =
      record {
        same_run = whole_same g;
        same_call = call_same g;
        same_answer = λ e r r' after after' h h'.
            aca_partial_pivoting_determined m n b epsilon restart t r r' after after' (h ∙ call_same g e) h';
      }

  -- where everything that the run on a partly filled block lists is filled in, its answer is that of the full block
  pub filled_late : FilledLate m n a b epsilon restart t
  filled_late filled h =
      unseen
      (record {
        rows_agree = λ k l j c. h.as_full _ j (h.rows_filled k l j c);
        columns_agree = λ k l i c. h.as_full i _ (h.columns_filled k l i c);
      })
