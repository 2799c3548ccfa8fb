-- What is proved of the format, each as one statement. `proofs/` has a theorem of the same name for each.
use Rattle.std.specs.Prelude.{◌≡◌, List, map, ℕ, ◌+◌, ◌≤◌, T, ℤ, Float, length, get_or}
use Rattle.std.proofs.Math.Option.{some}
use Rattle.std.specs.Float.{nan, binary64}
use Rattle.std.specs.Float.Ieee.{fits}
use Rattle.exchange_format.specs.Words.{Size, entry}
use Rattle.exchange_format.specs.Reading.{refuse, give, Block, float, verdict, reading}
use Rattle.exchange_format.specs.Calls.{size_call, read_call, write_call}
use Rattle.exchange_format.specs.Meaning.{Means, Fault}
use Rattle.exchange_format.specs.Writing.{whole_of, written, writing}

-- A text is accepted with a block exactly where it means that block, and refused with a number and a line exactly where it has that fault.
pub record Judged : Type 0 where
  pub accepted : (text : List ℕ) (b : Block) → Means text b → verdict text ≡ give b
  pub meant : (text : List ℕ) (b : Block) → verdict text ≡ give b → Means text b
  pub refused : (text : List ℕ) (n k : ℕ) → Fault text n k → verdict text ≡ refuse n k
  pub faulty : (text : List ℕ) (n k : ℕ) → verdict text ≡ refuse n k → Fault text n k

-- Nothing rounds: the float of an entry that is read is exactly the entry's whole number.
abbrev pub Unrounded : Type 0
Unrounded = (l : List ℕ) (z : ℤ) → entry l ≡ some z → whole_of (float z) ≡ some z

-- Each place of a lent block holds a float of 64 bits.
abbrev pub Floats : List Float → Type 0
Floats b = (i : ℕ) → T (fits binary64 (get_or b i nan))

-- A text says this block: read into a buffer of the block's length it gives the size, and floats that are the block's bit for bit.
pub record Says (text : List ℕ) (s : Size) (block : List Float) : Type 0 where
  pub whole : List ℤ
  pub read : reading text (length block) ≡ give (record { sizes = s; whole = whole })
  pub floats : map float whole ≡ block

-- What was written says the block that was written.
abbrev pub RoundTrip : Type 0
RoundTrip = (s : Size) (block : List Float) (room : ℕ) (text : List ℕ) → Floats block → writing s block room ≡ give text → Says text s block

-- What was read is written, where there is room, as a text that says the same.
pub record Rewritten (b : Block) (room : ℕ) : Type 0 where
  pub writes : writing b.sizes (map float b.whole) room ≡ give (written b)
  pub alike : verdict (written b) ≡ give b

abbrev pub BackTrip : Type 0
BackTrip = (text : List ℕ) (b : Block) (room : ℕ) → verdict text ≡ give b → length (written b) ≤ room → Rewritten b room

-- The line that a call tells is one past the text's length at most, and in writing two past the block's.
pub record LinesBounded : Type 0 where
  pub reads : (text : List ℕ) (block : List Float) → (read_call text block).0.1 ≤ length text + 1
  pub sizes : (text : List ℕ) → (size_call text).1 ≤ length text + 1
  pub writes : (rows columns : ℕ) (block : List Float) (text : List ℕ) → (write_call rows columns block text).0.1 ≤ length block + 2
