-- What the code's own helpers answer.
use Rattle.std.specs.Prelude.{ℕ, cond, List, [], ◌∷◌, eqb, length}
use Rattle.std.proofs.Math.Option.{Option, none, some}
use Rattle.common.specs.Refusals.{wrong_length}
use Rattle.exchange_told.specs.Exchanged.{with_line}

-- A number, a line and perhaps values, of which there are so many, in a lent slice.
module _ {A : Type 0} (values : A → List ℕ) (count : ℕ) where
  abbrev pub values_or_none : (number line : ℕ) → Option A → (lent : List ℕ) → ℕ × List ℕ
  values_or_none n k none lent = (with_line n k, lent)
  values_or_none n k (some a) lent = cond (eqb (length lent) count) (0, values a) (with_line wrong_length 0, lent)

  unfoldable pub values_told : ℕ × ℕ × Option A → (lent : List ℕ) → ℕ × List ℕ
  values_told x = values_or_none x.0 x.1 x.2

-- how many bytes were written, as a list
abbrev pub count_values : ℕ → List ℕ
count_values n = n ∷ []
