-- A pass fills its result a few rows at a time, and depends on the operator's entries alone. Assumes nothing.
use mathlib.Core.Path.{◌≡◌, refl, sym, ap, ◌∙◌}
use mathlib.Core.Bool.{Bool, true, false}
use mathlib.Core.List.{List}
use Prim.Native.Nat.{ℕ, ◌+◌, ◌-◌, ◌*◌, ◌<◌, ◌≤◌, min}
use native.Mathlib.Nat.{add-mul, one-mul, mul-le-mul}
use native.Mathlib.Omega.{arith}
use lib.Ieee.{Float, nan}
use lib.ListN.{length, get_or}
use borrow.Rule.Slice.PartMut.{put_mid}
use Rattle.common.specs.Floats.{times, inner, spaced}
use Rattle.common.specs.Lists.{tabulate, stores, stretch}
use Rattle.common.specs.Matrices.{cell, matrix, column_major}
use Rattle.common.proofs.Fill.{get_d_tabulate, tabulate_cong, stretch_part, fill_on}
use Rattle.common.proofs.Matrices.{some_rows, cell_on, column_cong, columns_filled}
use Rattle.common.proofs.Rows.{row_place, rows_more}
use Rattle.common.proofs.Stores.{length_stores}
use Rattle.common.proofs.Sums.{sums_more, sums_cong}
use Rattle.passes.specs.Passes.{passed, directed}
use Rattle.passes.specs.Working.{StripOf, added, summed}

-- row r of the operator, where it stands: a column of the block if that is transposed, else a row
module _ (p r : ℕ) (l : List Float) (transpose : Bool) where
  pub row_transposed : transpose ≡ true → (s : ℕ) → spaced l (r * p) 1 s ≡ directed transpose (matrix p l) r s
  unfolding directed
  row_transposed e s = rw (e, one-mul s)

  pub row_standing : transpose ≡ false → (s : ℕ) → spaced l r p s ≡ directed transpose (matrix p l) r s
  unfolding directed
  row_standing e s = rw (e, row_place p r s)

-- a further row is laid
pub lay_more : (p : ℕ) (operator : ℕ → ℕ → Float) (first k : ℕ) (now after : List Float) → p ≤ 16 → k < 4 → StripOf p operator first k now →
    after ≡ stores (λ s. k + 4 * s) (operator (first + k)) p now → StripOf p operator first (k + 1) after
lay_more p operator first k now after most lane h e =
    let room : p * 4 ≤ length now = omega (arith, h.long) in
    record {
      long = ap length e ∙ length_stores (λ s. k + 4 * s) (operator (first + k)) p now ∙ h.long;
      entries = λ i s b b'. rw e (rows_more 4 p (λ i s. operator (first + i) s) now nan k (operator (first + k)) lane room h.entries
          (λ _ _. refl) i s b b');
    }

-- a further term is added to each sum
pub sum_more : (values strip before : List Float) (from s at : ℕ) → at ≡ s * 4 → before ≡ tabulate 4 (summed s values from strip) →
    tabulate 4 (added (get_or values (from + s) nan) strip at before) ≡ tabulate 4 (summed (s + 1) values from strip)
sum_more values strip before from s at e h =
    tabulate_cong 4 (added (get_or values (from + s) nan) strip at before) (summed (s + 1) values from strip)
    (λ k b. let sum : get_or before k nan ≡ summed s values from strip k = rw h (get_d_tabulate 4 (summed s values from strip) k nan b) in
    rw e (sums_more (λ n. times (get_or values (from + n) nan) (matrix 4 strip k n)) s (get_or before k nan) sum))

-- a column's sum, where it is read
pub column_sum : (p : ℕ) (values strip sums : List Float) (from c k : ℕ) → k < 4 → from ≡ c * p →
    sums ≡ tabulate 4 (summed p values from strip) →
    spaced sums 0 1 k ≡ summed p values (c * p) strip k
column_sum p values strip sums from c k b e h =
    let place : 0 + 1 * k ≡ k = omega arith in
    rw (place, h, ← e) (get_d_tabulate 4 (summed p values from strip) k nan b)

-- at most four rows of those that are left, and their room
pub few_rows : (p r n : ℕ) → r < p → n ≡ min 4 (p - r) → (n ≤ 4) × (r + n ≤ p) × (0 < n)
few_rows p r n l e = (omega arith, omega arith, omega arith)

pub rows_fit : (p width r n at : ℕ) → at ≡ r * width → r + n ≤ p → at + n * width ≤ p * width
rows_fit p width r n at e h =
    let room = mul-le-mul {n₁ = r + n} {m₁ = width} {n₂ = p} {m₂ = width} h (omega arith) in
    let both : (r + n) * width ≡ r * width + n * width = add-mul r n width in
    omega arith

module _ (p width : ℕ) (values operator : ℕ → ℕ → Float) where
  abbrev output : ℕ → ℕ → Float
  output = λ c r. inner p (λ s. values s c) (operator r)

  -- the rows that a strip gives go on where the last ended
  pub strip_filled : (l now strip part : List Float) (r rows at end : ℕ) → at ≡ r * width → end ≡ at + rows * width → end ≤ length l →
      StripOf p operator r rows strip → part ≡ column_major width rows (λ c k. inner p (λ s. values s c) (matrix 4 strip k)) →
      length now ≡ length l → now ≡ stretch 0 at (cell width output) l →
      put_mid at (end - at) now part ≡ stretch 0 end (cell width output) l
  unfolding column_major
  strip_filled l now strip part r rows at end e e' fits laid made long before =
      let rows_on : ℕ → ℕ → Float = λ c k. output c (r + k) in
      let same : (c k : ℕ) → c < width → k < rows → inner p (λ s. values s c) (matrix 4 strip k) ≡ rows_on c k =
      λ c k _ b. sums_cong p _ _ (λ s b'. ap (times (values s c)) (laid.entries k s b b')) in
      let filled : part ≡ tabulate (rows * width) (cell width rows_on) = made ∙ column_cong width _ rows rows_on same in
      let on : (i : ℕ) → i < rows * width → cell width rows_on i ≡ cell width output (at + i) =
      λ i b. sym (rw e (cell_on width output r i (some_rows rows width i b))) in
      rw e' (stretch_part at (cell width rows_on) now (rows * width) part (omega arith) filled
      ∙ ap (stretch at (rows * width) (cell width rows_on)) before
      ∙ fill_on at (rows * width) (cell width output) (cell width rows_on) l on (omega arith))

  -- all rows are filled
  pub rows_all : (l : List Float) (at : ℕ) → length l ≡ p * width → at ≡ p * width →
      stretch 0 at (cell width output) l ≡ passed p width values operator
  unfolding passed
  rows_all l at h e = rw e (columns_filled width output p l h)

  -- and depend on the operator's entries alone
  pub passed_cong : (other : ℕ → ℕ → Float) → ((r s : ℕ) → r < p → s < p → operator r s ≡ other r s) →
      passed p width values operator ≡ passed p width values other
  unfolding passed
  passed_cong other same =
      column_cong width output p (λ c r. inner p (λ s. values s c) (other r))
      (λ c r _ b. sums_cong p _ _ (λ s b'. ap (times (values s c)) (same r s b b')))

pub directed_cong : (transpose : Bool) (o o' : ℕ → ℕ → Float) (p : ℕ) → ((r s : ℕ) → r < p → s < p → o r s ≡ o' r s) →
    (r s : ℕ) → r < p → s < p → directed transpose o r s ≡ directed transpose o' r s
unfolding directed
directed_cong true o o' p same r s b b' = same s r b' b
directed_cong false o o' p same r s b b' = same r s b b'
