-- How far a float can lie from 0.
use Rattle.std.specs.Prelude.{ℕ, ◌*◌, ◌^◌, ◌≤◌, Float}
use Rattle.std.specs.Float.{nan, inf, fin}
use Rattle.std.specs.Float.Ieee.{up, down}

-- finite, and at most 2 ^ k in size
abbrev pub AtMost : ℕ → Float → Type 0
AtMost k nan = ⊥
AtMost k (inf s) = ⊥
AtMost k (fin s m e) = m * up e ≤ 2 ^ k * down e
