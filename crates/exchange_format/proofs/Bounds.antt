-- The line of a refusal: a text has no more lines than bytes, and no refusal stands past the line after the last. Assumes nothing.
use mathlib.Core.Path.{◌≡◌, refl}
use mathlib.Core.Bool.{Bool, true, false, cond, ◌&&◌}
use mathlib.Core.List.{List, [], ◌∷◌}
use mathlib.Core.Option.{Option, some, none}
use Prim.Native.Nat.{ℕ, zero, suc, ◌+◌, ◌-◌, ◌≤◌, zero-le}
use native.Mathlib.Omega.{arith}
use lib.Dec.{eqb, leb}
use lib.IntN.{ℤ}
use lib.Ieee.{Float}
use lib.ListN.{length}
use Rattle.common.proofs.Cases.{by_bool}
use Rattle.common.specs.Refusals.{wrong_length, no_size, most_entries}
use Rattle.exchange_format.specs.Lines.{newline, onto, lines}
use Rattle.exchange_format.specs.Words.{is_first, is_passed, Size, size, entry}
use Rattle.exchange_format.specs.Reading.{Outcome, refuse, give, then, one_more, entries, Opened, opened, size_line, opening, Block}
use Rattle.exchange_format.specs.Reading.{count, filled_with, fitting, verdict, reading}
use Rattle.exchange_format.specs.Writing.{whole_of, wholes, written, fitting_text, writing}
use Rattle.exchange_format.specs.Calls.{answered, size_from, size_call, read_call, write_call}
use Rattle.exchange_format.specs.Promises.{LinesBounded}

-- A REFUSAL'S LINE IS AT MOST a number; what is given is of no concern

abbrev Within : {A : Type 0} → (most : ℕ) → Outcome A → Type 0
Within most (refuse n k) = k ≤ most
Within most (give a) = Unit

within_then : {A B : Type 0} (most : ℕ) (o : Outcome A) (f : A → Outcome B) → Within most o → ((a : A) → o ≡ give a → Within most (f a)) →
    Within most (then o f)
within_then most (refuse n k) f h g = h
within_then most (give a) f h g = g a refl

within_more : {A : Type 0} (m most : ℕ) (o : Outcome A) → m ≤ most → Within m o → Within most o
within_more m most (refuse n k) l h = omega arith
within_more m most (give a) l h = tt

-- LINES

more_lines : (b : ℕ) (ls : List (List ℕ)) → length (onto b ls) ≤ suc (length ls)
unfolding onto
more_lines b [] = omega arith
more_lines b (l ∷ ls) = omega arith

lines_most : (s : List ℕ) → length (lines s) ≤ length s
unfolding lines
lines_most [] = zero-le
lines_most (b ∷ s) =
    let rest = lines_most s in
    by_bool (eqb b newline) (λ e. rw e (omega arith)) (λ e. rw e (omega (arith, more_lines b (lines s))))

-- one entry more, in line k
one_more_lem : (most k : ℕ) (o : Option ℤ) (rest : Outcome (List ℤ)) → k ≤ most → Within most rest → Within most (one_more k o rest)
one_more_lem most k none rest l h = l
one_more_lem most k (some z) rest l h = within_then most rest (λ zs. give (z ∷ zs)) h (λ zs e. tt)

-- READING

entries_line : (k n : ℕ) (ls : List (List ℕ)) → Within (k + length ls) (entries k n ls)
unfolding entries
entries_line k zero [] = tt
entries_line k zero (l ∷ ls) = omega arith
entries_line k (suc n) [] = omega arith
entries_line k (suc n) (l ∷ ls) =
    let more : k + 1 + length ls ≡ k + suc (length ls) = omega arith in
    one_more_lem (k + suc (length ls)) k (entry l) (entries (k + 1) n ls) (omega arith) (rw more at (entries_line (k + 1) n ls))

-- the lines that are left count on from the next number
abbrev Left : (most : ℕ) → Outcome Opened → Type 0
Left most (refuse n k) = k ≤ most
Left most (give o) = o.next + length o.rest ≤ most

left_more : (m most : ℕ) (o : Outcome Opened) → m ≤ most → Left m o → Left most o
left_more m most (refuse n k) l h = omega arith
left_more m most (give o) l h = omega arith

size_left : (k : ℕ) (ls : List (List ℕ)) → Left (k + length ls) (size_line k ls)
unfolding size_line
size_left k [] = omega arith
size_left k (l ∷ ls) =
    let more : k + 1 + length ls ≡ k + suc (length ls) = omega arith in
    by_bool (is_passed l) (λ e. rw e (rw more at (size_left (k + 1) ls))) (λ e. rw e (here (size l)))
  where
    here : (o : Option Size) → Left (k + suc (length ls)) (opened k o ls)
    here none = omega arith
    here (some s) = omega arith

opening_left : (ls : List (List ℕ)) → Left (length ls + 1) (opening ls)
unfolding opening
opening_left [] = omega arith
opening_left (l ∷ ls) =
    by_bool (is_first l)
    (λ e. rw e (left_more (2 + length ls) (suc (length ls) + 1) (size_line 2 ls) (omega arith) (size_left 2 ls)))
    (λ e. rw e (omega arith))

block_line : (most : ℕ) (o : Outcome Opened) → Left most o → Within most (then o filled_with)
block_line most (refuse n k) h = h
block_line most (give o) h =
    within_then most (entries o.next (count o.sizes) o.rest) (λ xs. give (record { sizes = o.sizes; whole = xs }))
    (within_more (o.next + length o.rest) most (entries o.next (count o.sizes) o.rest) h
    (entries_line o.next (count o.sizes) o.rest))
    (λ xs e. tt)

fitting_line : (most room : ℕ) (b : Block) → Within most (fitting room b)
fitting_line most room b = by_bool (eqb (count b.sizes) room) (λ e. rw e tt) (λ e. rw e zero-le)

verdict_line : (text : List ℕ) → Within (length text + 1) (verdict text)
unfolding verdict
verdict_line text =
    within_more (length (lines text) + 1) (length text + 1) (then (opening (lines text)) filled_with) (omega (arith, lines_most text))
    (block_line (length (lines text) + 1) (opening (lines text)) (opening_left (lines text)))

-- what is told of an outcome has that bound
told : {A B : Type 0} (most : ℕ) (f : A → B) (o : Outcome A) → Within most o → (answered f o).1 ≤ most
told most f (refuse n k) h = h
told most f (give a) h = zero-le

opening_line : (text : List ℕ) → Within (length text + 1) (opening (lines text))
opening_line text = go (opening (lines text)) (opening_left (lines text))
  where
    go : (o : Outcome Opened) → Left (length (lines text) + 1) o → Within (length text + 1) o
    go (refuse n k) h = omega (arith, lines_most text)
    go (give o) h = tt

reading_line : (text : List ℕ) (room : ℕ) → Within (length text + 1) (reading text room)
unfolding reading
reading_line text room =
    within_then (length text + 1) (verdict text) (fitting room) (verdict_line text) (λ b _. fitting_line (length text + 1) room b)

-- WRITING

wholes_line : (k : ℕ) (b : List Float) → Within (k + length b - 1) (wholes k b)
unfolding wholes
wholes_line k [] = tt
wholes_line k (x ∷ b) =
    let more : k + 1 + length b - 1 ≡ k + suc (length b) - 1 = omega arith in
    one_more_lem (k + suc (length b) - 1) k (whole_of x) (wholes (k + 1) b) (omega arith) (rw more at (wholes_line (k + 1) b))

fitting_text_line : (most room : ℕ) (t : List ℕ) → Within most (fitting_text room t)
fitting_text_line most room t = by_bool (leb (length t) room) (λ e. rw e tt) (λ e. rw e zero-le)

writing_line : (s : Size) (block : List Float) (room : ℕ) → Within (length block + 2) (writing s block room)
unfolding writing
writing_line s block room = sized (leb s.rows most_entries && leb s.columns most_entries)
  where
    most : ℕ
    most = length block + 2

    text : Outcome (List ℕ)
    text = then (wholes 3 block) (λ xs. fitting_text room (written (record { sizes = s; whole = xs })))

    entered : Within most text
    entered =
        within_then most (wholes 3 block) (λ xs. fitting_text room (written (record { sizes = s; whole = xs })))
        (within_more (3 + length block - 1) most (wholes 3 block) (omega arith) (wholes_line 3 block))
        (λ xs _. fitting_text_line most room (written (record { sizes = s; whole = xs })))

    long : (t : Bool) → Within most (cond t text (refuse wrong_length 0))
    long true = entered
    long false = zero-le

    sized : (t : Bool) → Within most (cond t (cond (eqb (length block) (count s)) text (refuse wrong_length 0)) (refuse no_size 2))
    sized true = long (eqb (length block) (count s))
    sized false = omega arith

-- THE THEOREM

pub lines_bounded : LinesBounded
unfolding read_call size_call write_call
lines_bounded =
    record {
      reads = λ text block. told (length text + 1) (λ b. b.sizes) (reading text (length block)) (reading_line text (length block));
      sizes = λ text. told (length text + 1) (λ o. o.sizes) (opening (lines text)) (opening_line text);
      writes = λ r c block text.
          told (length block + 2) length (writing (size_from r c) block (length text)) (writing_line (size_from r c) block (length text));
    }
