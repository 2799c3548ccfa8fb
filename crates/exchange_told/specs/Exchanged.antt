-- The three calls of `exchange`, for C: a refusal is its number and its line in one number, and the values go into a lent slice.
use Rattle.std.specs.Prelude.{◌≡◌, Bool, cond, List, [], ◌∷◌, ℕ, ◌+◌, ◌*◌, ◌/◌, ◌%◌, ◌^◌, ◌<◌, ◌≤◌, min, eqb, Float, length}
use Rattle.common.specs.Refusals.{wrong_length}
use Rattle.exchange_format.specs.Lines.{lines}
use Rattle.exchange_format.specs.Words.{Size}
use Rattle.exchange_format.specs.Reading.{Outcome, refuse, give, then, opening, reading}
use Rattle.exchange_format.specs.Writing.{writing}
use Rattle.exchange_format.specs.Calls.{left_in, size_from, left_text}

-- number + 256 * line. A line is told as at most 2 ^ 55, which no text has, so that the sum fits 64 bits.
abbrev pub most_line : ℕ
most_line = 2 ^ 55

unfoldable pub with_line : (number line : ℕ) → ℕ
with_line n k = n + 256 * min k most_line

-- A caller takes them apart: of every number below 256 and every line up to that, both come back.
abbrev pub ToldApart : Type 0
ToldApart = (n k : ℕ) → n < 256 → k ≤ most_line → (with_line n k % 256 ≡ n) × (with_line n k / 256 ≡ k)

module _ {A : Type 0} where
  -- an outcome, which a slice of a wrong length refuses after all its own faults
  unfoldable pub if_fit : (fits : Bool) → Outcome A → Outcome A
  if_fit fits o = then o (λ a. cond fits (give a) (refuse wrong_length 0))

  -- what is answered, 0 being done; and what the lent slice holds then
  abbrev pub number_of : Outcome A → ℕ
  number_of (refuse n k) = with_line n k
  number_of (give a) = 0

  abbrev pub values_of : (A → List ℕ) → Outcome A → (lent : List ℕ) → List ℕ
  values_of f (refuse n k) lent = lent
  values_of f (give a) lent = f a

abbrev pub size_values : Size → List ℕ
size_values s = s.rows ∷ s.columns ∷ []

-- THE CALLS

-- the answer, and the sizes
unfoldable pub size_told : (text sizes : List ℕ) → ℕ × List ℕ
size_told text sizes =
    let o = if_fit (eqb (length sizes) 2) (opening (lines text)) in
    (number_of o, values_of (λ x. size_values x.sizes) o sizes)

-- the answer, the block and the sizes
unfoldable pub read_told : (text : List ℕ) → (block : List Float) → (sizes : List ℕ) → ℕ × List Float × List ℕ
read_told text block sizes =
    let o = if_fit (eqb (length sizes) 2) (reading text (length block)) in
    (number_of o, left_in block o, values_of (λ b. size_values b.sizes) o sizes)

-- the answer, the text and how many bytes of it were written
unfoldable pub write_told : (rows columns : ℕ) → (block : List Float) → (text written : List ℕ) → ℕ × List ℕ × List ℕ
write_told r c block text count =
    let o = if_fit (eqb (length count) 1) (writing (size_from r c) block (length text)) in
    (number_of o, left_text text o, values_of (λ t. length t ∷ []) o count)
