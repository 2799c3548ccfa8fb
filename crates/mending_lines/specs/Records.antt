-- A record of a lookup file, eight bytes: a dimension, three signed entries, the case, the reference and two zeros. What it becomes, and
-- what is said of it.
use Rattle.std.specs.Prelude.{Bool, not, List, [], ◌∷◌, ◌++◌, ℕ, eqb, get_or, replicate}
use Rattle.std.proofs.Math.Option.{Option, none, some}
use Rattle.common.specs.Tests.{those}
use Rattle.text.specs.Text.{spaced, counted}
use Rattle.vectors.specs.declared.Known.{Known}
use Rattle.vectors.specs.LookUps.{look_up}
use Rattle.records.specs.Text.{vector}

-- A RECORD: the first eight bytes of a list

-- what looking up the vector of its first four bytes answers: 0 and what is known of the vector, or a refusal's number
unfoldable pub found : (bytes : List ℕ) → ℕ × Option Known
found l = look_up (get_or l 0 0) (vector (get_or l 1 0) (get_or l 2 0) (get_or l 3 0))

-- the first four bytes, the case, the reference and two zeros; or eight zeros, where the vector is refused
unfoldable pub right_for : (found : ℕ × Option Known) → (bytes : List ℕ) → List ℕ
right_for (number, none) l = replicate 8 0
right_for (number, some k) l = get_or l 0 0 ∷ get_or l 1 0 ∷ get_or l 2 0 ∷ get_or l 3 0 ∷ k.case ∷ k.reference ∷ 0 ∷ 0 ∷ []

-- its right bytes, by the first four
unfoldable pub right : (bytes : List ℕ) → List ℕ
right l = right_for (found l) l

-- two lists have other bytes at place k; the places among the first eight at which they do, rising
unfoldable pub differs : (old new : List ℕ) → ℕ → Bool
differs old new k = not (eqb (get_or old k 0) (get_or new k 0))

unfoldable pub changed : (old new : List ℕ) → List ℕ
changed old new = those 8 (differs old new)

-- WHAT IS SAID of a record

pub data Verdict : Type 0 where
  kept : Verdict
  mended : (places : List ℕ) → Verdict
  blanked : (number : ℕ) → Verdict

-- of one whose vector is taken, by the places that change
unfoldable pub taken : (changed : List ℕ) → Verdict
taken [] = kept
taken (k ∷ ks) = mended (k ∷ ks)

unfoldable pub verdict_for : (found : ℕ × Option Known) → (changed : List ℕ) → Verdict
verdict_for (number, none) ks = blanked number
verdict_for (number, some k) ks = taken ks

unfoldable pub verdict : (bytes : List ℕ) → Verdict
verdict l = verdict_for (found l) (changed l (right l))

-- "kept" and the line's end
abbrev pub kept_line : List ℕ
kept_line = 107 ∷ 101 ∷ 112 ∷ 116 ∷ 10 ∷ []

-- "mended" and "blanked"
abbrev pub mended_word : List ℕ
mended_word = 109 ∷ 101 ∷ 110 ∷ 100 ∷ 101 ∷ 100 ∷ []

abbrev pub blanked_word : List ℕ
blanked_word = 98 ∷ 108 ∷ 97 ∷ 110 ∷ 107 ∷ 101 ∷ 100 ∷ []

-- a space and the number of each place
unfoldable pub places : List ℕ → List ℕ
places [] = []
places (k ∷ ks) = spaced k ++ places ks

unfoldable pub line : Verdict → List ℕ
line kept = kept_line
line (mended ks) = mended_word ++ (places ks ++ 10 ∷ [])
line (blanked number) = counted blanked_word number
