-- What the code's own helpers answer: the search of flags by words.
use Rattle.std.specs.Prelude.{ℕ, ◌+◌, ◌*◌, ◌/◌, ◌%◌, ◌^◌, ◌<◌, ◌≤◌, ◌≡◌, Bool, cond, List, eqb, Float, get_or}
use Rattle.aca_pivots.specs.declared.search.Best.{Best}
use Rattle.aca_pivots.specs.Flags.{has_bit}
use Rattle.aca_pivots.specs.Largest.{best}

-- where to look after place k, whose flag is off: at the next word where no later flag of this one is on
abbrev pub next_place : (flags : List ℕ) → (k : ℕ) → ℕ
next_place flags k = cond (eqb (get_or flags (k / 64) 0 / 2 ^ (k % 64)) 0) (k / 64 * 64 + 64) (k + 1)

-- whatever counts, the word saying it for the places from `from` on and below `end`: where `held` is the best of the entries below
-- `from`, `found` is the best of those below `end`
abbrev pub Extended : (entries : List Float) → (word from end : ℕ) → (held found : Best) → Type 0
Extended l word from end held found =
    (on : ℕ → Bool) → ((k : ℕ) → from ≤ k → k < end → on k ≡ has_bit word (k % 64)) → held ≡ best from l on → found ≡ best end l on
