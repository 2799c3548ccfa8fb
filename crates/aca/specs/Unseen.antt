-- Request E9: a run reads nothing outside the rows and the columns that it lists. Two blocks of m by n, with the samples a and b, that
-- agree there give one run, in either mode; elsewhere their entries may be anything. proofs/Unseen.antt proves it.
use Rattle.std.specs.Prelude.{ℕ, ◌<◌, ◌≡◌, Bool, true, List, Float, length, get_or, Result}
use Rattle.common.specs.Matrices.{matrix}
use Rattle.aca_progress.specs.Crosses.{Found}
use Rattle.aca_steps.specs.Memories.{Memory}
use Rattle.aca.specs.Reports.{told}
use Rattle.aca.specs.Runs.{approximation, call, aca_call}
use Rattle.common.specs.declared.refusals.Refusal.{Refusal}
use Rattle.aca.specs.declared.Report.{Report as Made}

module _ (m n : ℕ) (a b : List Float) where
  -- one entry of the blocks is the same value of the format; row i; and column j
  abbrev pub SameEntry : (i j : ℕ) → Type 0
  SameEntry i j = matrix m a i j ≡ matrix m b i j

  abbrev pub SameRow : (i : ℕ) → Type 0
  SameRow i = (j : ℕ) → j < n → SameEntry i j

  abbrev pub SameColumn : (j : ℕ) → Type 0
  SameColumn j = (i : ℕ) → i < m → SameEntry i j

  -- the blocks agree on every row and on every column that a run has listed
  pub record Agree (f : Found) : Type 0 where
    pub rows_agree : (k : ℕ) → k < length f.rows → SameRow (get_or f.rows k 0)
    pub columns_agree : (k : ℕ) → k < length f.columns → SameColumn (get_or f.columns k 0)

  module _ (epsilon : Float) (restart : Bool) (t : Memory) where
    -- the two blocks give one run
    pub record OneRun : Type 0 where
      -- why it ends, the state, the factors, the rows and the columns read, and the working row and column
      pub same_run : approximation m n a epsilon restart t ≡ approximation m n b epsilon restart t
      -- where as many samples are lent, one call: the number, the report, and all lent memory
      pub same_call : length a ≡ length b → aca_call m n a epsilon restart t ≡ aca_call m n b epsilon restart t
      -- and what two programs that meet the contract answer and leave is the same
      pub same_answer : length a ≡ length b → (r r' : Result Made Refusal) (after after' : Memory) →
          call (told r) after ≡ aca_call m n a epsilon restart t → call (told r') after' ≡ aca_call m n b epsilon restart t →
          (r ≡ r') × (after ≡ after')

    -- THE THEOREM
    abbrev pub Unseen : Type 0
    Unseen = Agree (approximation m n a epsilon restart t).found → OneRun

    -- FILLING LATE: a is b as far as it is filled in, and the run on a lists only rows and columns that are filled in
    pub record FilledIn (filled : (i j : ℕ) → Bool) : Type 0 where
      pub as_full : (i j : ℕ) → filled i j ≡ true → SameEntry i j
      pub rows_filled : let l = (approximation m n a epsilon restart t).found.rows in
          (k : ℕ) → k < length l → (j : ℕ) → j < n → filled (get_or l k 0) j ≡ true
      pub columns_filled : let l = (approximation m n a epsilon restart t).found.columns in
          (k : ℕ) → k < length l → (i : ℕ) → i < m → filled i (get_or l k 0) ≡ true

    -- then the run on a is the full block's
    abbrev pub FilledLate : Type 0
    FilledLate = (filled : (i j : ℕ) → Bool) → FilledIn filled → OneRun
