-- What the functions on a record and its line speak of; no public call's contract cites it.
use Rattle.std.specs.Prelude.{Bool, true, false, cond, List, [], ◌∷◌, ◌++◌, ℕ, eqb, get_or}
use Rattle.vectors.specs.declared.Known.{Known}

-- the place k, where two bytes differ
abbrev pub place_if : (k old new : ℕ) → List ℕ
place_if k old new = cond (eqb old new) [] (k ∷ [])

-- the places that change in a record whose vector is taken: among the later four
unfoldable pub changed_later : (known : Known) → (bytes : List ℕ) → List ℕ
changed_later known l =
    place_if 4 (get_or l 4 0) known.case ++
    (place_if 5 (get_or l 5 0) known.reference ++ (place_if 6 (get_or l 6 0) 0 ++ place_if 7 (get_or l 7 0) 0))

-- there is no place
unfoldable pub no_place : List ℕ → Bool
no_place [] = true
no_place (k ∷ ks) = false
