-- What the code on the entries answers and leaves. No public call's contract cites it.
use Rattle.std.specs.Prelude.{◌≡◌, Bool, true, false, cond, List, [], ℕ, ◌<◌, ◌≤◌, ℤ, pos, neg_ℤ, Float, length, drop, get_or}
use Rattle.std.specs.Prelude.{Some, None}
use Rattle.std.specs.Prelude.{Option as Answer}
use Rattle.std.proofs.Math.Option.{Option, some, none}
use Rattle.common.specs.Floats.{zero₆₄}
use Rattle.exchange_format.specs.Lines.{newline, before, from}
use Rattle.exchange_format.specs.Words.{entry}
use Rattle.exchange_format.specs.Reading.{Outcome, refuse, give, float}
use Rattle.exchange_entries.specs.declared.entries.Number.{Number}
use Rattle.exchange_entries.specs.declared.entries.Entry.{Entry}

-- AN ENTRY'S LINE

-- the line that begins at a place
abbrev pub line_at : (text : List ℕ) (at : ℕ) → List ℕ
line_at text at = before newline (drop at text)

-- the next line begins at place `next`
pub record Past (text : List ℕ) (at next : ℕ) : Type 0 where
  pub within : next ≤ length text
  pub further : at < next
  pub rest : drop next text ≡ drop 1 (from newline (drop at text))

module _ {A : Type 0} where
  abbrev pub is_fit : Option A → Bool
  is_fit none = false
  is_fit (some x) = true

  -- a line that was tested: it is none of these, or it is one and the next begins there
  abbrev pub Scans : (text : List ℕ) (at : ℕ) → Option A → Answer ℕ → Type 0
  Scans text at o (Some n) = (is_fit o ≡ true) × Past text at n
  Scans text at o None = o ≡ none

pub record Reads (text : List ℕ) (at : ℕ) (o : Option ℕ) (r : Number) : Type 0 where
  pub number : o ≡ some r.size
  pub past : Past text at r.next

abbrev pub signed_float : (minus : Bool) → ℕ → Float
signed_float minus n = float (cond minus (neg_ℤ (pos n)) (pos n))

-- the float of an entry; where there is none nobody asks for it
abbrev pub value_of : Option ℤ → Float
value_of none = zero₆₄
value_of (some x) = float x

abbrev pub value_at : List (List ℕ) → ℕ → Float
value_at ls i = value_of (entry (get_or ls i []))

pub record Valued (text : List ℕ) (at : ℕ) (r : Entry) : Type 0 where
  pub value : r.value ≡ value_of (entry (line_at text at))
  pub past : Past text at r.next

-- all entries are fine; or the first fault
abbrev pub checked : {A : Type 0} → Outcome A → Outcome (Unit {0})
checked (refuse n k) = refuse n k
checked (give x) = give tt
