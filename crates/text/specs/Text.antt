-- Text in lent memory, as bytes: numbers in decimal, and what putting a word into a line answers and leaves.
use Rattle.std.specs.Prelude.{◌≡◌, cond, List, [], ◌∷◌, ◌++◌, ℕ, zero, suc, ◌+◌, ◌-◌, ◌/◌, ◌%◌, min, ltb, length}
use Rattle.std.proofs.lemmas.List.Edits.{sets}
use Rattle.io.specs.Counts.{IsPrefixLen}

-- NUMBERS

-- a number in decimal, in ASCII, with at most so many digits: below ten its digit, and otherwise its tenth and then its last digit
unfoldable pub decimal_in : (most : ℕ) → ℕ → List ℕ
decimal_in zero n = []
decimal_in (suc k) n = cond (ltb n 10) ((48 + n) ∷ []) (decimal_in k (n / 10) ++ (48 + n % 10) ∷ [])

-- no number of 64 bits has more than twenty digits
unfoldable pub decimal : ℕ → List ℕ
decimal n = decimal_in 20 n

-- a space and a number
abbrev pub spaced : ℕ → List ℕ
spaced n = 32 ∷ decimal n

-- a word, a space, a number and the line's end
abbrev pub counted : (word : List ℕ) → ℕ → List ℕ
counted word n = word ++ (spaced n ++ 10 ∷ [])

-- PUTTING

-- The place past a word, and the line with the word's bytes over its own from place `to` on. What has no room is left out.
abbrev pub put : (to : ℕ) → (word line : List ℕ) → ℕ × List ℕ
put to word line = (to + min (length word) (length line - to), sets line to word)

-- a line is ended by a newline, where there is room; it has so many bytes
pub record Ended (to : ℕ) (before after : List ℕ) (bytes : ℕ) : Type 0 where
  pub line : after ≡ sets before to (10 ∷ [])
  pub count : bytes ≡ min (to + 1) (length before)
  pub within : IsPrefixLen bytes after

-- " refused" and "unknown kind"
abbrev pub refused_word : List ℕ
refused_word = 32 ∷ 114 ∷ 101 ∷ 102 ∷ 117 ∷ 115 ∷ 101 ∷ 100 ∷ []

abbrev pub unknown_word : List ℕ
unknown_word = 117 ∷ 110 ∷ 107 ∷ 110 ∷ 111 ∷ 119 ∷ 110 ∷ 32 ∷ 107 ∷ 105 ∷ 110 ∷ 100 ∷ []
