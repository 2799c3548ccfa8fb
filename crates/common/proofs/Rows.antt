-- A row of a matrix, stored entry by entry; and rows that are stored one after the other. Assumes nothing.
use mathlib.Core.Path.{◌≡◌, refl, sym, ap, ◌∙◌}
use mathlib.Core.List.{List}
use Prim.Native.Nat.{ℕ, zero, suc, ◌+◌, ◌*◌, ◌/◌, ◌%◌, ◌<◌, ◌≤◌}
use native.Mathlib.Nat.{not-suc-le-zero, mul_comm, add_comm, suc-mul}
use native.Mathlib.Omega.{arith}
use lib.Arith.{digits_mod, digits_div, digits_lt}
use lib.ListN.{length, get_or}
use lib.Seq.{get_or-set_same, get_or-set_other}
use Rattle.common.specs.Lists.{stores}
use Rattle.common.proofs.Cases.{by_eq, by_last}
use Rattle.common.proofs.Stores.{length_stores}

-- entry n of row k stands at k + rows * n, which is n * rows + k
pub row_place : (rows k n : ℕ) → k + rows * n ≡ n * rows + k
row_place rows k n = rw (mul_comm rows n, add_comm k (n * rows))

-- and lies in a list that has room for n columns
pub row_fits : (rows columns k long : ℕ) → k < rows → columns * rows ≤ long → (n : ℕ) → n < columns → k + rows * n < long
row_fits rows columns k long row room n l = let b : n * rows + k < columns * rows = digits_lt l row in omega (arith, row_place rows k n)

-- two places in different rows
rows_apart : (rows i j k n : ℕ) → i < rows → k < rows → (i ≡ k → ⊥) → j * rows + i ≡ k + rows * n → ⊥
rows_apart rows i j k n h row apart e =
    apart (sym (digits_mod j h) ∙ ap (λ (m : ℕ). m % rows) (e ∙ row_place rows k n) ∙ digits_mod n row)

module _ {A : Type 0} (rows k : ℕ) (v : ℕ → A) (l : List A) (d : A) (row : k < rows) where
  abbrev stored : ℕ → List A
  stored = λ n. stores (λ m. k + rows * m) v n l

  other_rows : (n i j : ℕ) → i < rows → (i ≡ k → ⊥) → get_or (stored n) (j * rows + i) d ≡ get_or l (j * rows + i) d
  unfolding stores
  other_rows zero i j h apart = refl
  other_rows (suc n) i j h apart =
      get_or-set_other (stored n) (k + rows * n) (j * rows + i) (v n) d (rows_apart rows i j k n h row apart) ∙ other_rows n i j h apart

  this_row : (n j : ℕ) → n * rows ≤ length l → j < n → get_or (stored n) (j * rows + k) d ≡ v j
  unfolding stores
  this_row zero j room b = absurd (not-suc-le-zero b)
  this_row (suc n) j room b =
      let more : suc n * rows ≡ n * rows + rows = suc-mul n rows in
      by_last j n b
      (λ e. let here : k + rows * n < length (stored n) = rw length_stores (omega (arith, row_place rows k n)) in
      rw (e, ← row_place rows k n) (get_or-set_same (stored n) (k + rows * n) (v n) d here))
      (λ l'. get_or-set_other (stored n) (k + rows * n) (j * rows + k) (v n) d
      (λ e. let same : j ≡ n = sym (digits_div j row) ∙ ap (λ (m : ℕ). m / rows) (e ∙ row_place rows k n) ∙ digits_div n row in omega arith)
      ∙ this_row n j (omega arith) l')

-- A LOOP that stores row after row: entry (i, j) is f i j in the first k rows, and with row k stored in the first k + 1
module _ {A : Type 0} (rows columns : ℕ) (f : ℕ → ℕ → A) (now : List A) (d : A) where
  pub rows_more : (k : ℕ) (v : ℕ → A) → k < rows → columns * rows ≤ length now →
      ((i j : ℕ) → i < k → j < columns → get_or now (j * rows + i) d ≡ f i j) → ((j : ℕ) → j < columns → v j ≡ f k j) →
      (i j : ℕ) → i < k + 1 → j < columns → get_or (stores (λ n. k + rows * n) v columns now) (j * rows + i) d ≡ f i j
  rows_more k v row room before same i j b b' =
      by_eq i k
      (λ e _. rw e (this_row rows k v now d row columns j room b' ∙ same j b'))
      (λ apart _. other_rows rows k v now d row columns i j (omega arith) apart ∙ before i j (omega arith) b')
