-- What the code's own helpers answer: the two passes in which a line is read. The terms' sums are written, and then subtracted from
-- the block's line.
use Rattle.std.specs.Prelude.{ℕ, List, Float, length, get_or}
use Rattle.std.specs.Float.{nan}
use Rattle.common.specs.Floats.{minus, inner}
use Rattle.common.specs.Lists.{tabulate}
use Rattle.common.specs.Matrices.{matrix}

-- the first k columns of a matrix of n rows, each times entry `at` of the same column of another, added up
abbrev pub summed : (n k : ℕ) → (terms : List Float) → (stride : ℕ) → (factors : List Float) → (at : ℕ) → List Float
summed n k terms stride factors at = tabulate n (λ c. inner k (matrix n terms c) (matrix stride factors at))

-- each entry of a line, less what stands in its place
abbrev pub less_these : (line : ℕ → Float) → List Float → List Float
less_these line l = tabulate (length l) (λ c. minus (line c) (get_or l c nan))
