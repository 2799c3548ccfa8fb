-- Columns of a recurrence are filled one by one, each from the columns before it; and so T and T'. Assumes nothing.
use mathlib.Core.Path.{◌≡◌, refl, sym, ap, ◌∙◌}
use mathlib.Core.List.{List}
use Prim.Native.Nat.{ℕ, zero, suc, ◌+◌, ◌-◌, ◌*◌, ◌<◌, ◌≤◌}
use native.Mathlib.Numerals.{add-one}
use native.Mathlib.Omega.{arith}
use lib.Ieee.{Float, nan}
use lib.ListN.{length, get_or}
use Rattle.common.specs.Lists.{stretch}
use Rattle.common.specs.Floats.{minus}
use Rattle.common.specs.Matrices.{cell}
use Rattle.common.proofs.Fill.{fill_on, fill_read}
use Rattle.common.proofs.Matrices.{next_column, column_fits, cell_at, columns_filled}
use Rattle.polynomial_columns.specs.Recurrence.{T, T'}
use Rattle.polynomial_columns.specs.Working.{column_of, column_T, column_T'}
use Rattle.polynomial_columns.proofs.Numbers.{two_before}
use Rattle.chebyshev.specs.Polynomials.{at_points}

-- column j has its place in a buffer for all columns below the order
pub column_room : (j order rows long : ℕ) → j < order → long ≡ order * rows → (j + 1) * rows ≤ long
column_room j order rows long h e = let room = column_fits j order rows (j * rows) h refl in let more = next_column j rows in omega arith

module _ (rows : ℕ) where
  -- the places of an entry one column before, and two
  place_one : (j i at : ℕ) → at ≡ suc j * rows → at - rows + i ≡ j * rows + i
  place_one j i at e = let e' : at ≡ (j + 1) * rows = rw (add-one j) e in let more = next_column j rows in omega arith

  place_two : (j i at : ℕ) → at ≡ suc (suc j) * rows → at - rows - rows + i ≡ j * rows + i
  place_two j i at e =
      let e' : at ≡ (suc j + 1) * rows = rw (add-one (suc j)) e in
      let more = next_column (suc j) rows in
      let less : suc j * rows ≡ (j + 1) * rows = rw (add-one j) in
      let last = next_column j rows in
      omega arith

  -- what stands there, once all before place `at` is filled
  module _ (f : ℕ → ℕ → Float) (l : List Float) (j i at : ℕ) (h : i < rows) where
    pub back_one : at ≡ suc j * rows → get_or (stretch 0 at (cell rows f) l) (at - rows + i) nan ≡ f i j
    back_one e =
        let place = place_one j i at e in
        let e' : at ≡ (j + 1) * rows = rw (add-one j) e in
        fill_read at (cell rows f) l (at - rows + i) nan (let more = next_column j rows in omega arith) ∙ ap (cell rows f) place
        ∙ cell_at rows f i j h

    pub back_two : at ≡ suc (suc j) * rows → get_or (stretch 0 at (cell rows f) l) (at - rows - rows + i) nan ≡ f i j
    back_two e =
        let some = two_before (suc (suc j)) rows at e (λ z. omega arith) (λ z. omega arith) in
        fill_read at (cell rows f) l (at - rows - rows + i) nan (omega arith) ∙ ap (cell rows f) (place_two j i at e) ∙ cell_at rows f i j h

  -- One more column of a matrix f is filled, where its first two columns are as f says, and a later one follows from f's recurrence.
  module _ (f : ℕ → ℕ → Float) (l now : List Float) (j at : ℕ) (e : at ≡ j * rows) (fits : at + rows ≤ length l) where
    pub column_filled : (first second later : ℕ → Float) → ((i : ℕ) → first i ≡ f i 0) → ((i : ℕ) → second i ≡ f i 1) →
        ((k i : ℕ) → j ≡ suc (suc k) → i < rows → later i ≡ f i (suc (suc k))) → now ≡ stretch 0 at (cell rows f) l →
        stretch at rows (column_of first second later j) now ≡ stretch 0 (at + rows) (cell rows f) l
    unfolding column_of
    column_filled first second later a b c made =
        rw made
        (fill_on at rows (cell rows f) _ l (λ i h. right j i refl h ∙ sym (rw e (cell_at rows f i j h))) fits)
      where
        right : (k i : ℕ) → j ≡ k → i < rows → column_of first second later k i ≡ f i k
        right zero i q h = a i
        right (suc zero) i q h = b i
        right (suc (suc k)) i q h = c k i q h

  -- the same of a buffer for all columns below an order
  module _ (f : ℕ → ℕ → Float) (order j : ℕ) (below : j < order) (l now : List Float) (long : length l ≡ order * rows) where
    pub column_filled_below : (first second later : ℕ → Float) → ((i : ℕ) → first i ≡ f i 0) → ((i : ℕ) → second i ≡ f i 1) →
        ((k i : ℕ) → j ≡ suc (suc k) → i < rows → later i ≡ f i (suc (suc k))) → now ≡ stretch 0 (j * rows) (cell rows f) l →
        stretch (j * rows) rows (column_of first second later j) now ≡ stretch 0 ((j + 1) * rows) (cell rows f) l
    column_filled_below first second later a b c made =
        rw (next_column j rows)
        (column_filled f l now j (j * rows) refl (rw long (column_fits j order rows (j * rows) below refl)) first second later a b c made)

module _ (rows : ℕ) (x : List Float) where
  abbrev entry_T : ℕ → ℕ → Float
  entry_T i j = T j (get_or x i nan)

  abbrev entry_T' : ℕ → ℕ → Float
  entry_T' i j = T' j (get_or x i nan)

  module _ (order j : ℕ) (below : j < order) (l now : List Float) (long : length l ≡ order * rows)
      (made : now ≡ stretch 0 (j * rows) (cell rows entry_T) l) where
    -- T before, where it stands
    value_before : (k i : ℕ) → j ≡ suc k → i < rows → get_or now (j * rows - rows + i) nan ≡ T k (get_or x i nan)
    value_before k i q h = rw made (back_one rows entry_T l k i (j * rows) h (rw q))

    pub values_filled : stretch (j * rows) rows (column_T j rows x now (j * rows)) now ≡ stretch 0 ((j + 1) * rows) (cell rows entry_T) l
    unfolding T
    values_filled =
        column_filled_below rows entry_T order j below l now long _ _ _ (λ i. refl) (λ i. refl)
        (λ k i q h. rw (value_before (suc k) i q h) (ap (minus _) (rw made (back_two rows entry_T l k i (j * rows) h (rw q))))) made

    pub slopes_filled : (l' now' : List Float) → length l' ≡ order * rows → now' ≡ stretch 0 (j * rows) (cell rows entry_T') l' →
        stretch (j * rows) rows (column_T' j rows x now now' (j * rows)) now' ≡ stretch 0 ((j + 1) * rows) (cell rows entry_T') l'
    unfolding T'
    slopes_filled l' now' long' made' =
        column_filled_below rows entry_T' order j below l' now' long' _ _ _ (λ i. refl) (λ i. refl)
        (λ k i q h. let one : get_or now' (j * rows - rows + i) nan ≡ entry_T' i (suc k) = rw made'
        (back_one rows entry_T' l' (suc k) i (j * rows) h (rw q)) in
        let two : get_or now' (j * rows - rows - rows + i) nan ≡ entry_T' i k = rw made'
        (back_two rows entry_T' l' k i (j * rows) h (rw q)) in
        rw (value_before (suc k) i q h, one, two)) made'

  -- all columns are filled
  pub columns_all : (f : ℕ → Float → Float) (order j : ℕ) (l : List Float) → length l ≡ order * rows → j ≡ order →
      stretch 0 (j * rows) (cell rows (λ i k. f k (get_or x i nan))) l ≡ at_points f order rows x
  columns_all f order j l h e = rw e (columns_filled rows (λ i j. f j (get_or x i nan)) order l h)
