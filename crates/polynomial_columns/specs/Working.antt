-- What a column holds, by its number and by its place in the buffer; no public contract cites it.
use Rattle.std.specs.Prelude.{ℕ, zero, suc, ◌+◌, ◌-◌, List, Float, get_or}
use Rattle.std.specs.Float.{nan}
use Rattle.common.specs.Floats.{zero₆₄, one₆₄}
use Rattle.polynomial_columns.specs.Recurrence.{next_T, next_T', next_T''}

-- A COLUMN of a recurrence, by its number: the first, the second, and each later one from the two before it
unfoldable pub column_of : (first second later : ℕ → Float) → (j : ℕ) → ℕ → Float
column_of first second later zero = first
column_of first second later (suc zero) = second
column_of first second later (suc (suc j)) = later

-- row i of a later column, at place `at`, from the columns before it in the same buffer; of the derivatives, from those of T too
abbrev pub later_T : (rows : ℕ) → (points values : List Float) → (at i : ℕ) → Float
later_T P x v at i = next_T (get_or x i nan) (get_or v (at - P + i) nan) (get_or v (at - P - P + i) nan)

abbrev pub later_T' : (rows : ℕ) → (points values slopes : List Float) → (at i : ℕ) → Float
later_T' P x v d at i = next_T' (get_or x i nan) (get_or v (at - P + i) nan) (get_or d (at - P + i) nan) (get_or d (at - P - P + i) nan)

abbrev pub column_T : (j rows : ℕ) → (points values : List Float) → (at : ℕ) → ℕ → Float
column_T j P x v at = column_of (λ i. one₆₄) (λ i. get_or x i nan) (later_T P x v at) j

abbrev pub column_T' : (j rows : ℕ) → (points values slopes : List Float) → (at : ℕ) → ℕ → Float
column_T' j P x v d at = column_of (λ i. zero₆₄) (λ i. one₆₄) (later_T' P x v d at) j

abbrev pub later_T'' : (rows : ℕ) → (points slopes bends : List Float) → (at i : ℕ) → Float
later_T'' P x d s at i = next_T'' (get_or x i nan) (get_or d (at - P + i) nan) (get_or s (at - P + i) nan) (get_or s (at - P - P + i) nan)

abbrev pub column_T'' : (j rows : ℕ) → (points slopes bends : List Float) → (at : ℕ) → ℕ → Float
column_T'' j P x d s at = column_of (λ i. zero₆₄) (λ i. zero₆₄) (later_T'' P x d s at) j
