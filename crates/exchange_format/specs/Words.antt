-- The three kinds of line of a Matrix Market array file, integer and general: the first line, the size line, an entry.
use Rattle.std.specs.Prelude.{ℕ, ◌+◌, ◌-◌, ◌*◌, ◌^◌, Bool, true, false, cond, not, ◌&&◌, ◌||◌, List, [], ◌∷◌, map, eqb, leb, ℤ, pos, neg_ℤ}
use Rattle.std.specs.Prelude.{take, drop}
use Rattle.std.proofs.Math.Option.{Option, some, none}
use Rattle.common.specs.Refusals.{most_entries}
use Rattle.common.specs.Tests.{within}
use Rattle.exchange_format.specs.Lines.{space, before, from, past, is_empty, all, same}

-- THE FIRST LINE: the banner as it stands, and the other words in any case

-- "%%MatrixMarket"
abbrev pub banner : List ℕ
banner = 37 ∷ 37 ∷ 77 ∷ 97 ∷ 116 ∷ 114 ∷ 105 ∷ 120 ∷ 77 ∷ 97 ∷ 114 ∷ 107 ∷ 101 ∷ 116 ∷ []

-- " matrix array integer general"
abbrev pub kind : List ℕ
kind =
    32 ∷ 109 ∷ 97 ∷ 116 ∷ 114 ∷ 105 ∷ 120 ∷ 32 ∷ 97 ∷ 114 ∷ 114 ∷ 97 ∷ 121 ∷ 32 ∷ 105 ∷ 110 ∷ 116 ∷ 101 ∷ 103 ∷ 101 ∷ 114 ∷
    32 ∷ 103 ∷ 101 ∷ 110 ∷ 101 ∷
    114 ∷ 97 ∷ 108 ∷ []

-- a capital letter as a small one, and every other byte as it is
unfoldable pub small : ℕ → ℕ
small b = cond (within 65 90 b) (b + 32) b

unfoldable pub is_first : List ℕ → Bool
is_first l = same (take 14 l) banner && same (map small (drop 14 l)) kind

-- WHAT IS PASSED OVER before the size line: comments, which begin with %, and blank lines, which have spaces at most

abbrev pub is_comment : List ℕ → Bool
is_comment [] = false
is_comment (b ∷ l) = eqb b 37

abbrev pub is_blank : List ℕ → Bool
is_blank l = is_empty (past space l)

unfoldable pub is_passed : List ℕ → Bool
is_passed l = is_comment l || is_blank l

-- NUMBERS in decimal

abbrev pub is_digit : ℕ → Bool
is_digit b = within 48 57 b

-- the number whose first digits give n, and whose other digits are these
unfoldable pub value_from : (n : ℕ) → List ℕ → ℕ
value_from n [] = n
value_from n (d ∷ ds) = value_from (n * 10 + (d - 48)) ds

abbrev pub value : List ℕ → ℕ
value l = value_from 0 l

-- one digit or more, of a number that is at most `most`
unfoldable pub numeral : (most : ℕ) → List ℕ → Option ℕ
numeral most l = cond (not (is_empty l) && (all is_digit l && leb (value l) most)) (some (value l)) none

-- THE SIZE LINE: rows and columns, two numbers up to 1,024, parted by one or more spaces

pub record Size : Type 0 where
  pub rows : ℕ
  pub columns : ℕ

abbrev pub pair : Option ℕ → Option ℕ → Option Size
pair none n = none
pair (some m) none = none
pair (some m) (some n) = some (record { rows = m; columns = n })

unfoldable pub size : List ℕ → Option Size
size l = pair (numeral most_entries (before space l)) (numeral most_entries (past space (from space l)))

-- AN ENTRY: an optional minus and digits, of a number up to 2 ^ 53

abbrev pub most_size : ℕ
most_size = 2 ^ 53

abbrev pub signed : (minus : Bool) → Option ℕ → Option ℤ
signed minus none = none
signed minus (some n) = some (cond minus (neg_ℤ (pos n)) (pos n))

unfoldable pub entry : List ℕ → Option ℤ
entry [] = none
entry (b ∷ l) = cond (eqb b 45) (signed true (numeral most_size l)) (signed false (numeral most_size (b ∷ l)))
