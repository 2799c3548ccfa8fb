-- What was read is written as a text that says the same. Assumes nothing.
use mathlib.Core.Path.{◌≡◌, refl, ap, ◌∙◌}
use mathlib.Core.List.{List, [], ◌∷◌, map}
use Prim.Native.Nat.{ℕ, zero, suc, ◌+◌, ◌≤◌}
use lib.IntN.{ℤ}
use lib.Ieee.{fits, binary64}
use lib.Ieee.Fits.{of_int-fits}
use lib.ListN.{length}
use borrow.Author.Tests.{le-leb, eq-eqb}
use Rattle.common.specs.Refusals.{most_entries}
use Rattle.exchange_format.specs.Reading.{give, count, float}
use Rattle.exchange_format.specs.Meaning.{EntryLines, EntryLines.no_line, EntryLines.one_line}
use Rattle.exchange_format.specs.Writing.{wholes, written, writing}
use Rattle.exchange_format.specs.Promises.{Floats, BackTrip}
use Rattle.exchange_format.proofs.Meant.{read_entry, meaning}
use Rattle.exchange_format.proofs.Exact.{unrounded}
use Rattle.exchange_format.proofs.RoundTrip.{verdict_written}

-- entries that were read are whole numbers
wholes_back : (k : ℕ) {ls : List (List ℕ)} {zs : List ℤ} → EntryLines ls zs → wholes k (map float zs) ≡ give zs
unfolding wholes
wholes_back k no_line = refl
wholes_back k (one_line {l} {z} h hs) = rw (unrounded l z (read_entry h), wholes_back (k + 1) hs)

length_map : (zs : List ℤ) → length (map float zs) ≡ length zs
length_map [] = refl
length_map (z ∷ zs) = ap suc (length_map zs)

floats : (zs : List ℤ) → Floats (map float zs)
unfolding fits
floats [] i = tt
floats (z ∷ zs) zero = of_int-fits binary64 z
floats (z ∷ zs) (suc i) = floats zs i

pub back_trip : BackTrip
unfolding writing
back_trip text b room e fits =
    let m = meaning text b e in
    let few : b.sizes.rows ≤ most_entries = m.sized.rows.within in
    let narrow : b.sizes.columns ≤ most_entries = m.sized.columns.within in
    let long : length (map float b.whole) ≡ count b.sizes = length_map b.whole ∙ m.counted in
    let whole : wholes 3 (map float b.whole) ≡ give b.whole = wholes_back 3 m.entered in
    record {
      writes =
          rw (
            le-leb b.sizes.rows most_entries few,
            le-leb b.sizes.columns most_entries narrow,
            eq-eqb (length (map float b.whole)) (count b.sizes) long,
            whole,
            le-leb (length (written b)) room fits,
          );
      alike = verdict_written b.sizes (map float b.whole) b.whole (floats b.whole) few narrow long whole;
    }
