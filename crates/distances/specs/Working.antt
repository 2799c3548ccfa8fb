-- What the private functions speak of; no public contract cites it.
use Rattle.std.specs.Prelude.{◌≡◌, List, ℕ, ◌*◌, ◌≤◌, Float}
use Rattle.common.specs.Matrices.{matrix}
use Rattle.distances.specs.Distances.{apart, added, distance}

-- between two lists of points: row n and column m, and the sum on the axes to the a-th
abbrev pub between : (D rows : ℕ) → (sources targets : List Float) → (n m : ℕ) → Float
between D rows s t n m = distance D (matrix rows s n) (matrix rows t m)

abbrev pub summed : (rows : ℕ) → (sources targets : List Float) → (m a n : ℕ) → Float
summed rows s t m a n = added a (λ b. apart (matrix rows s n b) (matrix rows t m b))

-- two lists of points in D axes
pub record Points (D rows sources targets : ℕ) : Type 0 where
  pub some : 1 ≤ D
  pub most : D ≤ 3
  pub few : rows ≤ 1024
  pub sources_long : sources ≡ D * rows
  pub targets_long : targets ≡ D * rows
