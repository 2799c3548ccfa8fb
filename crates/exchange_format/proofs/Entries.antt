-- An entry, by its first byte: with a minus, and without one. Assumes nothing.
use mathlib.Core.Path.{◌≡◌, refl}
use mathlib.Core.Bool.{true, false}
use mathlib.Core.List.{List, [], ◌∷◌}
use Prim.Native.Nat.{ℕ}
use lib.ListN.{length, get_or, drop}
use borrow.Author.Tests.{eq-eqb, ne_eqb}
use Rattle.exchange_format.specs.Words.{most_size, numeral, signed, entry}

pub minus_entry : (l : List ℕ) → (length l ≡ 0 → ⊥) → get_or l 0 0 ≡ 45 → entry l ≡ signed true (numeral most_size (drop 1 l))
unfolding entry
minus_entry [] h e = absurd (h refl)
minus_entry (x ∷ l) h e = rw (eq-eqb x 45 e)

pub plain_entry : (l : List ℕ) → (length l ≡ 0 → ⊥) → (get_or l 0 0 ≡ 45 → ⊥) → entry l ≡ signed false (numeral most_size l)
unfolding entry
plain_entry [] h e = absurd (h refl)
plain_entry (x ∷ l) h e = rw (ne_eqb x 45 e)
