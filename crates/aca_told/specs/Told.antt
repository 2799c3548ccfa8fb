-- What cross approximation answers and leaves where its report goes into two lent slices, of three whole numbers and of two floats.
use Rattle.std.specs.Prelude.{ℕ, Bool, ◌&&◌, List, [], ◌∷◌, eqb, Float, length}
use Rattle.common.specs.Refusals.{left}
use Rattle.aca_steps.specs.Memories.{Memory, laid}
use Rattle.aca.specs.Runs.{report, lengths, aca_number, approximation}
use Rattle.aca.specs.Reports.{Report}
use Rattle.answers.specs.Answers.{with_length}

abbrev pub counts_of : Report → List ℕ
counts_of r = r.rank ∷ r.stop ∷ r.rows_read ∷ []

abbrev pub numbers_of : Report → List Float
numbers_of r = r.estimate ∷ r.smallest ∷ []

abbrev pub report_fits : (counts : List ℕ) → (numbers : List Float) → Bool
report_fits c e = eqb (length c) 3 && eqb (length e) 2

unfoldable pub cross_number : (restart : Bool) → (m n : ℕ) → (samples : List Float) → Memory → (counts : List ℕ) →
    (numbers : List Float) → ℕ
cross_number restart m n a t c e = with_length (aca_number restart m n (lengths a t)) (report_fits c e)

-- the number, the memory of the run, and both slices
pub record Crossed : Type 0 where
  pub number : ℕ
  pub leaves : Memory
  pub counts : List ℕ
  pub numbers : List Float

abbrev pub crossed : (number : ℕ) → Memory → (counts : List ℕ) → (numbers : List Float) → Crossed
crossed n t c e = record { number = n; leaves = t; counts = c; numbers = e }

unfoldable pub cross_told : (m n : ℕ) → (samples : List Float) → (epsilon : Float) → (restart : Bool) → Memory → (counts : List ℕ) →
    (numbers : List Float) → Crossed
cross_told m n a epsilon restart t c e =
    let f = approximation m n a epsilon restart t in
    let number = cross_number restart m n a t c e in
    crossed number (left number (laid f.found t) t) (left number (counts_of (report f)) c) (left number (numbers_of (report f)) e)
