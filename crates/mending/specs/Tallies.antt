-- How many records were kept, mended and blanked: by their verdicts, and as a text tells it.
use Rattle.std.specs.Prelude.{Bool, true, false, cond, List, ℕ, zero, suc, ◌+◌, drop}
use Rattle.mending_counts.specs.Occurrences.{occurs}
use Rattle.mending.specs.declared.Totals.{Totals}
use Rattle.mending_lines.specs.Records.{Verdict, kept, mended, blanked, verdict}
use Rattle.mending.specs.Mending.{whole}

-- as a text tells it, by a letter of each word: the p of "kept", the m of "mended" and the b of "blanked"
unfoldable pub tally_of : (text : List ℕ) → Totals
tally_of t = record { kept = occurs 112 t; mended = occurs 109 t; blanked = occurs 98 t }

-- BY THE VERDICTS

abbrev pub is_kept : Verdict → Bool
is_kept kept = true
is_kept (mended ks) = false
is_kept (blanked n) = false

abbrev pub is_mended : Verdict → Bool
is_mended kept = false
is_mended (mended ks) = true
is_mended (blanked n) = false

abbrev pub is_blanked : Verdict → Bool
is_blanked kept = false
is_blanked (mended ks) = false
is_blanked (blanked n) = true

-- how many of the first so many records have a verdict that passes the test
unfoldable pub count_of : (Verdict → Bool) → (count : ℕ) → List ℕ → ℕ
count_of f zero l = 0
count_of f (suc n) l = cond (f (verdict l)) 1 0 + count_of f n (drop 8 l)

unfoldable pub tallied : (file : List ℕ) → Totals
tallied l =
    record { kept = count_of is_kept (whole l) l; mended = count_of is_mended (whole l) l; blanked = count_of is_blanked (whole l) l }
