-- What the private functions speak of; no public contract cites it.
use Rattle.std.specs.Prelude.{◌≡◌, List, ℕ, ◌+◌, ◌*◌, ◌<◌, Float, length, get_or}
use Rattle.std.specs.Float.{nan}
use Rattle.common.specs.Floats.{plus, times, inner}
use Rattle.common.specs.Matrices.{matrix}

-- so many entries, from a place on and in steps, lie in a list of this length
abbrev pub Spaced : (count from step long : ℕ) → Type 0
Spaced count from step long = (k : ℕ) → k < count → from + step * k < long

-- A STRIP holds some rows of an operator with p columns, side by side in four lanes: entry (first + k, s) at k + 4 * s
pub record StripOf (p : ℕ) (operator : ℕ → ℕ → Float) (first rows : ℕ) (strip : List Float) : Type 0 where
  pub long : length strip ≡ 64
  pub entries : (k s : ℕ) → k < rows → s < p → matrix 4 strip k s ≡ operator (first + k) s

-- the sums of its rows, with a further entry of the values times a column of the strip; and all of them, over a column of the values
abbrev pub added : (value : Float) → (strip : List Float) → (at : ℕ) → (before : List Float) → (k : ℕ) → Float
added value strip at before k = plus (get_or before k nan) (times value (get_or strip (at + k) nan))

abbrev pub summed : (p : ℕ) → (values : List Float) → (from : ℕ) → (strip : List Float) → (k : ℕ) → Float
summed p values from strip k = inner p (λ s. get_or values (from + s) nan) (matrix 4 strip k)
