-- The masked argmax as a call: its limits, and the largest entry among those whose byte in the mask is 1.
use Rattle.std.specs.Prelude.{ℕ, Bool, List, eqb, leb, Float, length, get_or}
use Rattle.std.proofs.Math.Option.{Option}
use Rattle.common.specs.Refusals.{no_count, wrong_length, no_mask, unless, most_entries, answer}
use Rattle.common.specs.Tests.{each}
use Rattle.aca_pivots.specs.Largest.{argmax, counts}

-- each byte is 0 or 1
unfoldable pub is_mask : (mask : List ℕ) → Bool
is_mask mask = each (length mask) (λ k. leb (get_or mask k 0) 1)

unfoldable pub argmax_number : (entries : List Float) → (mask : List ℕ) → ℕ
argmax_number l mask =
    unless (leb (length l) most_entries) no_count
    (unless (eqb (length mask) (length l)) wrong_length (unless (is_mask mask) no_mask 0))

unfoldable pub argmax_call : (entries : List Float) → (mask : List ℕ) → ℕ × Option ℕ
argmax_call l mask = answer (argmax_number l mask) (argmax l (counts mask))
