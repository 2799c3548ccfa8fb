-- Flags, one for each row or column of a block: on where it is unused. How they are stored is said here and in src/flags.rt, and
-- nowhere else; a reader may take `is_on` and the laws of proofs/Unused.antt for their meaning.
use Rattle.std.specs.Prelude.{ℕ, ◌-◌, ◌/◌, ◌%◌, ◌^◌, Bool, List, eqb, get_or, set, replicate}
use Rattle.std.specs.Int.Bits.{bit_and}

-- A WORD has 64 bits. Bit j is 1; and the word without it
abbrev pub has_bit : (word j : ℕ) → Bool
has_bit x j = eqb (x / 2 ^ j % 2) 1

abbrev pub without_bit : (word j : ℕ) → ℕ
without_bit x j = bit_and x (2 ^ 64 - 1 - 2 ^ j)

-- A SET has 16 words, so a flag for each of 1,024 places: flag k is bit k % 64 of word k / 64
unfoldable pub is_on : (flags : List ℕ) → (k : ℕ) → Bool
is_on flags k = has_bit (get_or flags (k / 64) 0) (k % 64)

-- every flag is on
unfoldable pub all_on : List ℕ
all_on = replicate 16 (2 ^ 64 - 1)

-- flag k is off, and the others are as they were
unfoldable pub cleared : (flags : List ℕ) → (k : ℕ) → List ℕ
cleared flags k = set flags (k / 64) (without_bit (get_or flags (k / 64) 0) (k % 64))
