-- The text of a block, and when a block is refused.
use Rattle.std.specs.Prelude.{cond, ◌&&◌, List, [], ◌∷◌, ◌++◌, map, ℕ, suc, ◌+◌, leb, eqb, ℤ, pos, negsuc, Float, length}
use Rattle.std.proofs.Math.Option.{Option, some, none}
use Rattle.std.specs.Float.Ieee.{whole, to_signed}
use Rattle.std.specs.Float.{binary64}
use Rattle.common.specs.Refusals.{wrong_length, no_size, most_entries}
use Rattle.text.specs.Text.{decimal}
use Rattle.exchange_format.specs.Lines.{newline, space}
use Rattle.exchange_format.specs.Words.{banner, kind, Size}
use Rattle.exchange_format.specs.Reading.{Outcome, refuse, give, then, one_more, Block, count}

-- THE TEXT

-- each line, and a newline after it
unfoldable pub unlines : List (List ℕ) → List ℕ
unlines [] = []
unlines (l ∷ ls) = l ++ (newline ∷ unlines ls)

-- a minus and digits, with no leading zeros
unfoldable pub integer : ℤ → List ℕ
integer (pos n) = decimal n
integer (negsuc n) = 45 ∷ decimal (suc n)

-- the first line, the size line, and a line an entry
unfoldable pub file_lines : Block → List (List ℕ)
file_lines b = (banner ++ kind) ∷ (decimal b.sizes.rows ++ (space ∷ decimal b.sizes.columns)) ∷ map integer b.whole

unfoldable pub written : Block → List ℕ
written b = unlines (file_lines b)

-- WHEN IT IS REFUSED

-- the whole number that a float is: finite, with no fraction, at most 2 ^ 53 in size, and not -0.0
unfoldable pub whole_of : Float → Option ℤ
whole_of x = cond (whole binary64 x) (some (to_signed 63 x)) none

-- the entries as whole numbers, of which the first would stand in line number k
unfoldable pub wholes : (k : ℕ) → List Float → Outcome (List ℤ)
wholes k [] = give []
wholes k (x ∷ xs) = one_more k (whole_of x) (wholes (k + 1) xs)

abbrev pub fitting_text : (room : ℕ) → List ℕ → Outcome (List ℕ)
fitting_text room t = cond (leb (length t) room) (give t) (refuse wrong_length 0)

-- the size first, then the block's length, then its entries, the first of them in line 3, and last the room for the text
unfoldable pub writing : Size → (block : List Float) → (room : ℕ) → Outcome (List ℕ)
writing s block room =
    cond (leb s.rows most_entries && leb s.columns most_entries)
    (cond (eqb (length block) (count s)) (then (wholes 3 block) (λ xs. fitting_text room (written (record { sizes = s; whole = xs }))))
    (refuse wrong_length 0))
    (refuse no_size 2)
