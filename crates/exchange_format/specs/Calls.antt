-- The three calls: what each answers, told as the refusal's number (0 being done), its line and the values, and what it leaves in lent
-- memory. A refusal leaves the memory as it was lent.
use Rattle.std.specs.Prelude.{List, map, ◌++◌, ℕ, Float, length, drop}
use Rattle.std.proofs.Math.Option.{Option, some, none}
use Rattle.exchange_format.specs.Lines.{lines}
use Rattle.exchange_format.specs.Words.{Size}
use Rattle.exchange_format.specs.Reading.{Outcome, refuse, give, opening, Block, float, reading}
use Rattle.exchange_format.specs.Writing.{writing}

module _ {A B : Type 0} where
  -- what is told of an outcome: number, line, and one value of what was given
  abbrev pub answered : (A → B) → Outcome A → ℕ × ℕ × Option B
  answered f (refuse n k) = (n, k, none)
  answered f (give a) = (0, 0, some (f a))

-- THE SIZE of the block in a text: what stands after the size line is not looked at
unfoldable pub size_call : (text : List ℕ) → ℕ × ℕ × Option Size
size_call text = answered (λ o. o.sizes) (opening (lines text))

-- READING
abbrev pub left_in : (block : List Float) → Outcome Block → List Float
left_in block (refuse n k) = block
left_in block (give b) = map float b.whole

abbrev pub read_of : (block : List Float) → Outcome Block → (ℕ × ℕ × Option Size) × List Float
read_of block o = (answered (λ b. b.sizes) o, left_in block o)

unfoldable pub read_call : (text : List ℕ) (block : List Float) → (ℕ × ℕ × Option Size) × List Float
read_call text block = read_of block (reading text (length block))

-- WRITING: the text over the first bytes, and all the rest kept; the value is how many bytes were written
abbrev pub size_from : (rows columns : ℕ) → Size
size_from r c = record { rows = r; columns = c }

abbrev pub left_text : (text : List ℕ) → Outcome (List ℕ) → List ℕ
left_text text (refuse n k) = text
left_text text (give t) = t ++ drop (length t) text

abbrev pub written_of : (text : List ℕ) → Outcome (List ℕ) → (ℕ × ℕ × Option ℕ) × List ℕ
written_of text o = (answered length o, left_text text o)

unfoldable pub write_call : (rows columns : ℕ) (block : List Float) (text : List ℕ) → (ℕ × ℕ × Option ℕ) × List ℕ
write_call r c block text = written_of text (writing (size_from r c) block (length text))
