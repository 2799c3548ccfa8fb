-- THE FORMAT by the parts of a file, in no order of reading: which block a text means, and which fault it has. `specs/Promises.antt` says
-- that `verdict` accepts and refuses just so.
use Rattle.std.specs.Prelude.{◌≡◌, Bool, true, false, List, [], ◌∷◌, ◌++◌, ℕ, ◌+◌, ◌<◌, ◌≤◌, eqb, ℤ, pos, neg_ℤ, length}
use Rattle.common.specs.Refusals.{no_first_line, no_size, bad_entry, wrong_count, most_entries}
use Rattle.exchange_format.specs.Lines.{space, is_empty, all, lines}
use Rattle.exchange_format.specs.Words.{is_first, is_passed, is_digit, value, Size, most_size}
use Rattle.exchange_format.specs.Reading.{Block, count}

-- one digit or more, of the number n, which is at most `most`
pub record Numeral (most : ℕ) (l : List ℕ) (n : ℕ) : Type 0 where
  pub some_digit : is_empty l ≡ false
  pub digits : all is_digit l ≡ true
  pub worth : value l ≡ n
  pub within : n ≤ most

abbrev pub is_space : ℕ → Bool
is_space b = eqb b space

-- two numbers up to 1,024, parted by one or more spaces
pub record SizeLine (l : List ℕ) (s : Size) : Type 0 where
  pub first : List ℕ
  pub spaces : List ℕ
  pub second : List ℕ
  pub parts : l ≡ first ++ (space ∷ (spaces ++ second))
  pub blank : all is_space spaces ≡ true
  pub rows : Numeral most_entries first s.rows
  pub columns : Numeral most_entries second s.columns

-- an optional minus, and a number up to 2 ^ 53
pub data EntryLine : List ℕ → ℤ → Type 0 where
  plain : {l : List ℕ} {n : ℕ} → Numeral most_size l n → EntryLine l (pos n)
  minus : {l : List ℕ} {n : ℕ} → Numeral most_size l n → EntryLine (45 ∷ l) (neg_ℤ (pos n))

-- one entry a line
pub data EntryLines : List (List ℕ) → List ℤ → Type 0 where
  no_line : EntryLines [] []
  one_line : {l : List ℕ} {z : ℤ} {ls : List (List ℕ)} {zs : List ℤ} → EntryLine l z → EntryLines ls zs → EntryLines (l ∷ ls) (z ∷ zs)

-- comments and blank lines
pub data PassedLines : List (List ℕ) → Type 0 where
  no_passed : PassedLines []
  one_passed : {l : List ℕ} {ls : List (List ℕ)} → is_passed l ≡ true → PassedLines ls → PassedLines (l ∷ ls)

-- A TEXT MEANS A BLOCK: the first line, lines that are passed over, the size line, and as many entries as the size asks
pub record Means (text : List ℕ) (b : Block) : Type 0 where
  pub first : List ℕ
  pub passed : List (List ℕ)
  pub line : List ℕ
  pub rest : List (List ℕ)
  pub are : lines text ≡ first ∷ (passed ++ (line ∷ rest))
  pub opens : is_first first ≡ true
  pub over : PassedLines passed
  pub sized : SizeLine line b.sizes
  pub entered : EntryLines rest b.whole
  pub counted : length b.whole ≡ count b.sizes

-- A TEXT HAS A FAULT: how far it is right, and what stands at the next line. It has one fault at most, since `verdict` is a function.

-- among n entries of which the first is line number k
pub data EntryFault (k n : ℕ) (ls : List (List ℕ)) : (number line : ℕ) → Type 0 where
  bad_entry_line : {good : List (List ℕ)} {zs : List ℤ} {j : ℕ} (l : List ℕ) (rest : List (List ℕ)) → ls ≡ good ++ (l ∷ rest) →
      EntryLines good zs → length zs < n → ((z : ℤ) → EntryLine l z → ⊥) → j ≡ k + length zs → EntryFault k n ls bad_entry j
  too_few : {zs : List ℤ} {j : ℕ} → EntryLines ls zs → length zs < n → j ≡ k + length zs → EntryFault k n ls wrong_count j
  too_many : {good : List (List ℕ)} {zs : List ℤ} {j : ℕ} (l : List ℕ) (rest : List (List ℕ)) → ls ≡ good ++ (l ∷ rest) →
      EntryLines good zs → length zs ≡ n → j ≡ k + length zs → EntryFault k n ls wrong_count j

-- from the line with number k on, where the size line is looked for
pub data SizeFault (k : ℕ) (ls : List (List ℕ)) : (number line : ℕ) → Type 0 where
  no_size_line : {j : ℕ} → PassedLines ls → j ≡ k + length ls → SizeFault k ls no_size j
  bad_size : {passed : List (List ℕ)} {j : ℕ} (l : List ℕ) (rest : List (List ℕ)) → ls ≡ passed ++ (l ∷ rest) → PassedLines passed →
      is_passed l ≡ false → ((s : Size) → SizeLine l s → ⊥) → j ≡ k + length passed → SizeFault k ls no_size j
  after_size : {passed : List (List ℕ)} {l : List ℕ} {s : Size} {m j : ℕ} (rest : List (List ℕ)) → ls ≡ passed ++ (l ∷ rest) →
      PassedLines passed → SizeLine l s → EntryFault (k + length passed + 1) (count s) rest m j → SizeFault k ls m j

pub data Fault (text : List ℕ) : (number line : ℕ) → Type 0 where
  no_text : lines text ≡ [] → Fault text no_first_line 1
  no_first : {l : List ℕ} {ls : List (List ℕ)} → lines text ≡ l ∷ ls → is_first l ≡ false → Fault text no_first_line 1
  after_first : {l : List ℕ} {ls : List (List ℕ)} {m j : ℕ} → lines text ≡ l ∷ ls → is_first l ≡ true → SizeFault 2 ls m j → Fault text m j
