-- What a text of the format says, line after line: a block with its size, or the refusal's number with its line.
use Rattle.std.specs.Prelude.{ℕ, zero, suc, ◌+◌, ◌*◌, cond, List, [], ◌∷◌, eqb, ℤ, Float}
use Rattle.std.proofs.Math.Option.{Option, some, none}
use Rattle.std.specs.Float.Ieee.{of_int}
use Rattle.std.specs.Float.{binary64}
use Rattle.common.specs.Refusals.{wrong_length, no_first_line, no_size, bad_entry, wrong_count}
use Rattle.exchange_format.specs.Lines.{lines}
use Rattle.exchange_format.specs.Words.{is_first, is_passed, Size, size, entry}

-- an answer, or a refusal's number with its line; the first refusal ends the reading
pub data Outcome (A : Type 0) : Type 0 where
  refuse : (number line : ℕ) → Outcome A
  give : A → Outcome A

module _ {A B : Type 0} where
  abbrev pub then : Outcome A → (A → Outcome B) → Outcome B
  then (refuse n k) f = refuse n k
  then (give a) f = f a

-- THE ENTRIES: so many lines from line number k on, each an entry, and no line after them

abbrev pub one_more : (k : ℕ) → Option ℤ → Outcome (List ℤ) → Outcome (List ℤ)
one_more k none rest = refuse bad_entry k
one_more k (some x) rest = then rest (λ xs. give (x ∷ xs))

unfoldable pub entries : (k count : ℕ) → List (List ℕ) → Outcome (List ℤ)
entries k zero [] = give []
entries k zero (l ∷ ls) = refuse wrong_count k
entries k (suc n) [] = refuse wrong_count k
entries k (suc n) (l ∷ ls) = one_more k (entry l) (entries (k + 1) n ls)

-- THE SIZE LINE: the first line from line number k on that is not passed over. It leaves the lines after it, of which the first has
-- number `next`.

pub record Opened : Type 0 where
  pub sizes : Size
  pub next : ℕ
  pub rest : List (List ℕ)

abbrev pub opened : (k : ℕ) → Option Size → List (List ℕ) → Outcome Opened
opened k none ls = refuse no_size k
opened k (some s) ls = give (record { sizes = s; next = k + 1; rest = ls })

unfoldable pub size_line : (k : ℕ) → List (List ℕ) → Outcome Opened
size_line k [] = refuse no_size k
size_line k (l ∷ ls) = cond (is_passed l) (size_line (k + 1) ls) (opened k (size l) ls)

-- THE FILE

unfoldable pub opening : List (List ℕ) → Outcome Opened
opening [] = refuse no_first_line 1
opening (l ∷ ls) = cond (is_first l) (size_line 2 ls) (refuse no_first_line 1)

-- a block of whole numbers, by columns
pub record Block : Type 0 where
  pub sizes : Size
  pub whole : List ℤ

abbrev pub count : Size → ℕ
count s = s.rows * s.columns

abbrev pub filled_with : Opened → Outcome Block
filled_with o = then (entries o.next (count o.sizes) o.rest) (λ xs. give (record { sizes = o.sizes; whole = xs }))

-- what a text says
unfoldable pub verdict : (text : List ℕ) → Outcome Block
verdict text = then (opening (lines text)) filled_with

-- INTO A BUFFER

-- a whole number as a float: up to 2 ^ 53 in size nothing rounds, and there is one zero
abbrev pub float : ℤ → Float
float = of_int binary64

-- the block fits where its buffer is rows times columns long
abbrev pub fitting : (room : ℕ) → Block → Outcome Block
fitting room b = cond (eqb (count b.sizes) room) (give b) (refuse wrong_length 0)

unfoldable pub reading : (text : List ℕ) (room : ℕ) → Outcome Block
reading text room = then (verdict text) (fitting room)
