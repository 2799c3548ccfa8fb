-- A text is a list of bytes, and its lines are lists of bytes: how a text falls into lines, and a line into parts.
use Rattle.std.specs.Prelude.{ℕ, Bool, true, false, cond, List, [], ◌∷◌, eqb}

abbrev pub newline : ℕ
newline = 10

abbrev pub space : ℕ
space = 32

-- THE LINES of a text: each ends at a newline, the last also at the text's end. A final newline begins no line, and an empty text has none.

-- one byte more at the front of the first line
unfoldable pub onto : ℕ → List (List ℕ) → List (List ℕ)
onto b [] = (b ∷ []) ∷ []
onto b (l ∷ ls) = (b ∷ l) ∷ ls

unfoldable pub lines : List ℕ → List (List ℕ)
lines [] = []
lines (b ∷ s) = cond (eqb b newline) ([] ∷ lines s) (onto b (lines s))

-- PARTS OF A LINE

-- the bytes before the first b; that b with all after it; what is left without the b's that it begins with
unfoldable pub before : (b : ℕ) → List ℕ → List ℕ
before b [] = []
before b (x ∷ s) = cond (eqb x b) [] (x ∷ before b s)

unfoldable pub from : (b : ℕ) → List ℕ → List ℕ
from b [] = []
from b (x ∷ s) = cond (eqb x b) (x ∷ s) (from b s)

unfoldable pub past : (b : ℕ) → List ℕ → List ℕ
past b [] = []
past b (x ∷ s) = cond (eqb x b) (past b s) (x ∷ s)

-- TESTS

abbrev pub is_empty : List ℕ → Bool
is_empty [] = true
is_empty (x ∷ s) = false

-- each byte passes
unfoldable pub all : (ℕ → Bool) → List ℕ → Bool
all f [] = true
all f (x ∷ s) = cond (f x) (all f s) false

-- the same bytes
unfoldable pub same : List ℕ → List ℕ → Bool
same [] [] = true
same [] (y ∷ t) = false
same (x ∷ s) [] = false
same (x ∷ s) (y ∷ t) = cond (eqb x y) (same s t) false
