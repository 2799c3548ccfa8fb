-- Cross approximation, one step, in the old mode and in restart mode: a row and a column of a block, less what the earlier terms say of
-- them, give the next term. The modes differ in two places: what a row without a usable pivot leads to (`usable`, `without`), and which
-- row comes next (`onward`).
use Rattle.std.specs.Prelude.{ℕ, ◌+◌, min, Bool, true, false, not, cond, ◌&&◌, List, [], ◌∷◌, ◌++◌, eqb, Float, length, get_or}
use Rattle.std.specs.Float.{nan, binary64}
use Rattle.std.specs.Float.Ieee.{lt, le, is_nan, of_bits}
use Rattle.common.specs.Floats.{plus, times, over, zero₆₄, one₆₄, two₆₄, size}
use Rattle.common.specs.Tests.{any, lowest}
use Rattle.aca_pivots.specs.Largest.{argmax, pivot}
use Rattle.common.specs.Matrices.{matrix}
use Rattle.aca_lines.specs.Lines.{residual, multiplied, norm, cross}
use Rattle.aca_pivots.specs.declared.Pivot.{Pivot}
use Rattle.aca_progress.specs.declared.Progress.{Progress}
use Rattle.aca_progress.specs.Steps.{Step, More, Stop, tolerable, spent, used_up, all_tried}

-- a block: its size, and its entries by row and column
pub record Block : Type 0 where
  pub rows : ℕ
  pub columns : ℕ
  pub at : (i j : ℕ) → Float

-- the most terms that it can give
abbrev pub most : Block → ℕ
most b = min b.rows b.columns

-- What a run has found so far: u and v of each term, one after the other; the rows and the columns read, in order; and the row
-- and the column that it last worked on.
pub record Found : Type 0 where
  pub us : List Float
  pub vs : List Float
  pub rows : List ℕ
  pub columns : List ℕ
  pub row : List Float
  pub column : List Float

abbrev pub found : (us vs : List Float) → (rows columns : List ℕ) → (row column : List Float) → Found
found u v i j w x = record { us = u; vs = v; rows = i; columns = j; row = w; column = x }

-- THE ROW AND THE COLUMN

abbrev pub residual_row : Block → Found → (k i : ℕ) → List Float
residual_row b f k i = residual b.columns k (b.at i) (matrix b.columns f.vs) (matrix b.rows f.us i)

abbrev pub residual_column : Block → Found → (k j : ℕ) → List Float
residual_column b f k j = residual b.rows k (λ i. b.at i j) (matrix b.rows f.us) (matrix b.columns f.vs j)

-- k is not among those read
unfoldable pub unread : (read : List ℕ) → (k : ℕ) → Bool
unread [] k = true
unread (x ∷ l) k = cond (eqb k x) false (unread l k)

-- the row to read next is read
unfoldable pub row_read : Block → Progress → Found → Found
row_read b s f =
    found f.us f.vs (f.rows ++ s.next ∷ []) f.columns (residual_row b f s.rank s.next) f.column

-- column j is read, and the row is multiplied by 1 over its entry there
unfoldable pub column_read : Block → Progress → Found → (j : ℕ) → Found
column_read b s f j =
    let row = multiplied (over one₆₄ (get_or f.row j nan)) f.row in
    found f.us f.vs f.rows (f.columns ++ j ∷ []) row (residual_column b f s.rank j)

-- THE TERM

-- The lesser of the smallest size so far and one size more. A NaN is below nothing and is passed over; +0.0 says that there is none so
-- far, since no pivot that is accepted has a size of 0.
unfoldable pub lesser : (smallest size : Float) → Float
lesser a x = cond (lt x a) x (cond (lt zero₆₄ a) a (cond (is_nan x) zero₆₄ x))

-- the state when a pivot of this size is accepted
abbrev pub noted : Progress → (size : Float) → Progress
noted s x =
    record { estimate = s.estimate; cross = s.cross; smallest = lesser s.smallest x; rank = s.rank; next = s.next }

-- the state after a term with this norm, this cross term and this row to read next
unfoldable pub grown : Progress → (norm cross : Float) → (next : ℕ) → Progress
grown s g x i =
    record {
      estimate = plus s.estimate (plus g (times two₆₄ x));
      cross = x;
      smallest = s.smallest;
      rank = s.rank + 1;
      next = i;
    }

-- the state after the term whose row and column are at hand
unfoldable pub weighed : Progress → Found → Progress
weighed s f =
    let shared = cross s.rank f.us f.vs f.column f.row in
    grown s (norm f.column f.row) shared (argmax f.column (unread f.rows))

-- the row and the column at hand are v and u of one more term
unfoldable pub stored : Found → Found
stored f = found (f.us ++ f.column) (f.vs ++ f.row) f.rows f.columns f.row f.column

-- THE ROW THAT IS READ NEXT; `on` holds at the unread rows

-- the same state, with another row to read next
abbrev pub moved : Progress → (next : ℕ) → Progress
moved s i = record { estimate = s.estimate; cross = s.cross; smallest = s.smallest; rank = s.rank; next = i }

-- at the lowest of m rows that is unread, if there is one
unfoldable pub elsewhere : (m : ℕ) → (on : ℕ → Bool) → Progress → Step
elsewhere m on s = cond (eqb (lowest m on) m) (Stop all_tried s) (More (moved s (lowest m on)))

-- after a term: at the row that the state names, or, in restart mode, elsewhere if that was read already
unfoldable pub onward : (restart : Bool) → (m : ℕ) → (on : ℕ → Bool) → Progress → Step
onward false m on s = More s
onward true m on s = cond (on s.next) (More s) (elsewhere m on s)

-- after a row without a usable pivot: not at all, or, in restart mode, elsewhere
unfoldable pub without : (restart : Bool) → (m : ℕ) → (on : ℕ → Bool) → Progress → Step
without false m on s = Stop spent s
without true m on s = elsewhere m on s

-- THE STEP

-- 2 ^ -52
abbrev pub tiny₆₄ : Float
tiny₆₄ = of_bits binary64 0x3cb0000000000000

-- A row has a usable pivot where the size at its argmax is not below 2 ^ -52, so that a NaN is one; or, in restart mode, where some
-- unread column's is at least that, so that a NaN is none. Here `on` holds at the unread columns.
unfoldable pub usable : (restart : Bool) → (row : List Float) → (on : ℕ → Bool) → Pivot → Bool
usable false w on p = not (lt p.size tiny₆₄)
usable true w on p = any (length w) (λ c. on c && le tiny₆₄ (size (get_or w c nan)))

-- a term is the last where its norm is small against the estimate, and then where there are as many as k
unfoldable pub judged : (restart : Bool) → (m k : ℕ) → (tolerance norm : Float) → (on : ℕ → Bool) → Progress → Step
judged restart m k tolerance g on s =
    cond (le g (times tolerance s.estimate)) (Stop tolerable s) (cond (eqb s.rank k) (Stop used_up s) (onward restart m on s))

-- what a step answers, and what has then been found
pub record Outcome : Type 0 where
  pub answer : Step
  pub found : Found

abbrev pub outcome : Step → Found → Outcome
outcome r f = record { answer = r; found = f }

unfoldable pub accepted : (restart : Bool) → Block → (tolerance : Float) → Progress → Found → Outcome
accepted restart b tolerance s f =
    let weight = norm f.column f.row in
    outcome (judged restart b.rows (most b) tolerance weight (unread f.rows) (weighed s f)) (stored f)

-- a row without a usable pivot gives no term: nothing is stored, and the state stays but for the row to read next
unfoldable pub tried : (restart : Bool) → Block → (tolerance : Float) → Progress → Found → Pivot → Outcome
tried restart b tolerance s f p =
    cond (usable restart f.row (unread f.columns) p)
    (accepted restart b tolerance (noted s p.size) (column_read b s f p.place))
    (outcome (without restart b.rows (unread f.rows) s) f)

unfoldable pub step : (restart : Bool) → Block → (tolerance : Float) → Progress → Found → Outcome
step restart b tolerance s f =
    let r = row_read b s f in tried restart b tolerance s r (pivot r.row (unread r.columns))
