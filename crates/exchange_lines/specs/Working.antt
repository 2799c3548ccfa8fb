-- What the code on the first lines answers, each by the definition of what it reads.
use Rattle.std.specs.Prelude.{ℕ, ◌+◌, ◌-◌, ◌<◌, ◌≤◌, ◌≡◌, [], List, length, get_or, take, drop, Result, Ok, Err}
use Rattle.exchange_format.specs.Lines.{lines}
use Rattle.exchange_format.specs.Words.{Size}
use Rattle.exchange_format.specs.Reading.{Outcome, give, then}
use Rattle.exchange_format.specs.Reading.{Opened as SizeRead}
use Rattle.exchange_format.specs.Faults.{outcome}
use Rattle.exchange_format.specs.declared.Fault.{Fault}
use Rattle.exchange_lines.specs.declared.sizes.Sizes.{Sizes}
use Rattle.exchange_lines.specs.declared.Cursor.{Cursor}
use Rattle.exchange_lines.specs.declared.Opening.{Opening}

-- the line that begins at place `at` ends at `end`, and the next one begins at `next`
pub record Cut (text : List ℕ) (at end next : ℕ) : Type 0 where
  pub least : at ≤ end
  pub most : end ≤ length text
  pub within : next ≤ length text
  pub further : at < length text → at < next
  pub line : take (end - at) (drop at text) ≡ get_or (lines (drop at text)) 0 []
  pub rest : lines (drop next text) ≡ drop 1 (lines (drop at text))

abbrev pub size_of : Sizes → Size
size_of s = record { rows = s.rows; columns = s.columns }

-- WHAT WAS FOUND before the entries: a place of the text stands for the lines from there on

-- a place in a text with its line: each line before it has a byte at least, the first line and the size line aside
pub record Stands (text : List ℕ) (c : Cursor) : Type 0 where
  pub within : c.at ≤ length text
  pub line : c.line ≤ c.at + 2

abbrev pub opened_at : (text : List ℕ) → Sizes → Cursor → SizeRead
opened_at text s p = record { sizes = size_of s; next = p.line; rest = lines (drop p.at text) }

abbrev pub meant : (text : List ℕ) → Result Opening Fault → Outcome SizeRead
meant text r = then (outcome r) (λ o. give (opened_at text o.sizes o.rest))

abbrev pub Sound : (text : List ℕ) → Result Opening Fault → Type 0
Sound text (Ok o) = Stands text o.rest
Sound text (Err f) = Unit

pub record Opens (text : List ℕ) (o : Outcome SizeRead) (r : Result Opening Fault) : Type 0 where
  pub means : meant text r ≡ o
  pub sound : Sound text r
