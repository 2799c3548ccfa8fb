-- The calls that read: what the first lines and the check of the entries say of the whole. Assumes nothing.
use mathlib.Core.Path.{◌≡◌, refl, sym, ap, ◌∙◌}
use mathlib.Core.List.{List, [], map}
use mathlib.Core.Option.{Option, some, none}
use Prim.Native.Nat.{ℕ, ◌*◌, ◌<◌, ◌≤◌}
use native.Mathlib.Nat.{mul-le-mul}
use native.Mathlib.Omega.{arith}
use lib.IntN.{ℤ}
use lib.Ieee.{Float}
use lib.ListN.{length, get_or}
use mathlib.Core.Bool.{true}
use borrow.Author.Tests.{eq-eqb, ne_eqb}
use Rattle.common.specs.Lists.{tabulate}
use Rattle.common.specs.Refusals.{wrong_length, most_entries}
use Rattle.exchange_format.specs.Lines.{lines}
use Rattle.exchange_format.specs.Words.{Size, entry}
use Rattle.exchange_format.specs.Reading.{Outcome, refuse, give, then, entries, Opened, opening, count, filled_with, float, fitting}
use Rattle.exchange_format.specs.Reading.{verdict, reading}
use Rattle.exchange_format.specs.Calls.{size_call, read_of, read_call}
use Rattle.exchange_entries.specs.Working.{is_fit, value_at, checked}
use Rattle.exchange_entries.proofs.Checks.{Valid, valid}

-- a block of a size that is taken has so many entries at most
pub product_fits : (m n : ℕ) → m ≤ most_entries → n ≤ most_entries → m * n ≤ 1048576
product_fits m n h k = mul-le-mul {n₁ = m} {m₁ = n} {n₂ = 1024} {m₂ = 1024} h k

-- AFTER THE CHECK

module _ (o : Opened) (block : List Float) where
  abbrev pub found : Outcome (List ℤ)
  found = entries o.next (count o.sizes) o.rest

  fault : (n k : ℕ) (w : Outcome (List ℤ)) → refuse n k ≡ checked w → w ≡ refuse n k
  fault n k (refuse m j) q = cc
  fault n k (give xs) q = absurd (let z : ◌≡◌ {A = ℕ} 0 1 = cc in omega arith)

  pub read_fault : (n k : ℕ) → refuse n k ≡ checked found →
      ((n, k, none), block) ≡ read_of block (then (filled_with o) (fitting (length block)))
  read_fault n k e = let q : found ≡ refuse n k = fault n k found e in rw q

  module _ (e : give tt ≡ checked found) where
    record Good : Type 0 where
      whole : List ℤ
      is : found ≡ give whole

    good : (w : Outcome (List ℤ)) → found ≡ w → give tt ≡ checked w → Good
    good (refuse m j) s q = absurd (let z : ◌≡◌ {A = ℕ} 0 1 = cc in omega arith)
    good (give xs) s q = record { whole = xs; is = s }

    values : (g : Good) → Valid (count o.sizes) o.rest g.whole
    values g = valid o.next (count o.sizes) o.rest g.whole g.is

    pub read_length : (length block ≡ count o.sizes → ⊥) →
        ((wrong_length, 0, none), block) ≡ read_of block (then (filled_with o) (fitting (length block)))
    read_length d = rw ((good found refl e).is, ne_eqb (count o.sizes) (length block) (λ q. d (sym q)))

    module _ (l : length block ≡ count o.sizes) where
      pub read_fit : (j : ℕ) → j < length block → is_fit (entry (get_or o.rest j [])) ≡ true
      read_fit j b = (values (good found refl e)).fit j (omega arith)

      pub read_good : (after : List Float) → after ≡ tabulate (length block) (value_at o.rest) →
          ((0, 0, some o.sizes), after) ≡ read_of block (then (filled_with o) (fitting (length block)))
      read_good after a =
          let g = good found refl e in
          let a' : after ≡ map float g.whole = a ∙ ap (λ (n : ℕ). tabulate n (value_at o.rest)) l ∙ sym (values g).values in
          rw (g.is, eq-eqb (count o.sizes) (length block) (sym l), a')

-- AFTER THE FIRST LINES

module _ (text : List ℕ) where
  module _ (n k : ℕ) (e : refuse n k ≡ opening (lines text)) where
    pub read_unopened : (block : List Float) → ((n, k, none), block) ≡ read_call text block
    unfolding read_call reading verdict
    read_unopened block = rw (← e)

    pub size_unopened : (n, k, none) ≡ size_call text
    unfolding size_call
    size_unopened = rw (← e)

  module _ (o : Opened) (e : give o ≡ opening (lines text)) where
    pub read_opened : (block : List Float) (told : (ℕ × ℕ × Option Size) × List Float) →
        told ≡ read_of block (then (filled_with o) (fitting (length block))) → told ≡ read_call text block
    unfolding read_call reading verdict
    read_opened block told h = rw (← e) h

    pub size_opened : (0, 0, some o.sizes) ≡ size_call text
    unfolding size_call
    size_opened = rw (← e)
