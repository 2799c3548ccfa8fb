-- What the code's own helpers answer.
use Rattle.std.specs.Prelude.{ℕ, ◌&&◌, List, leb, Float}
use Rattle.std.proofs.Math.Option.{Option, none, some}
use Rattle.common.specs.Refusals.{no_count, wrong_length, unless, most_entries}
use Rattle.aca.specs.Reports.{Report}
use Rattle.aca_told.specs.Told.{counts_of, numbers_of}

-- a number and perhaps a report, in slices that fit
abbrev pub report_or_none : (number : ℕ) → Option Report → (counts : List ℕ) → (numbers : List Float) → ℕ × List ℕ × List Float
report_or_none n none c e = (n, c, e)
report_or_none n (some r) c e = (n, counts_of r, numbers_of r)

unfoldable pub report_told : ℕ × Option Report → (counts : List ℕ) → (numbers : List Float) → ℕ × List ℕ × List Float
report_told x = report_or_none x.0 x.1

-- the number of a call whose report does not fit: too many rows or columns are refused first
unfoldable pub unfit_number : (m n : ℕ) → ℕ
unfit_number m n = unless (leb m most_entries && leb n most_entries) no_count wrong_length
