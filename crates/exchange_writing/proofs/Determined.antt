-- The contracts of this crate determine what their calls answer and leave. Assumes nothing.
use mathlib.Core.Path.{sym, ◌∙◌}
use Rattle.std.proofs.Common.{◌≡◌, ℕ, List, length}
use lib.Ieee.{Float}
use Rattle.common.proofs.Determined.{coincide}
use Rattle.text.specs.Text.{decimal, put}
use Rattle.exchange_format.specs.Writing.{wholes}
use Rattle.exchange_format.specs.Faults.{outcome}
use Rattle.exchange_format.specs.declared.Fault.{Fault}
use Rattle.exchange_format.proofs.Handed.{outcome_same}
use Rattle.std.specs.Prelude.{Result}
use Rattle.exchange_writing.specs.Working.{measured, spelled, head_text}

measure_determined : (block : List Float) (r r' : Result ℕ Fault) → outcome r ≡ measured (wholes 3 block) →
    outcome r' ≡ measured (wholes 3 block) → r ≡ r'
measure_determined block r r' e e' = outcome_same r r' (e ∙ sym e')

digit_count_determined : (n r r' : ℕ) → r ≡ length (decimal n) → r' ≡ length (decimal n) → r ≡ r'
digit_count_determined n r r' = coincide r r' (length (decimal n))

-- the place behind what was put, and the text
module _ (text exit exit' : List ℕ) (to r r' : ℕ) where
  put_head_determined : (rows columns : ℕ) → (r, exit) ≡ put to (head_text rows columns) text →
      (r', exit') ≡ put to (head_text rows columns) text → ◌≡◌ {A = ℕ × List ℕ} (r, exit) (r', exit')
  put_head_determined rows columns = coincide (r, exit) (r', exit') (put to (head_text rows columns) text)

  put_entries_determined : (block : List Float) → (r, exit) ≡ put to (spelled block) text →
      (r', exit') ≡ put to (spelled block) text → ◌≡◌ {A = ℕ × List ℕ} (r, exit) (r', exit')
  put_entries_determined block = coincide (r, exit) (r', exit') (put to (spelled block) text)
