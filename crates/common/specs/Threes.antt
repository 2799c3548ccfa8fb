-- A number for each of three axes.
use Rattle.std.specs.Prelude.{ℕ, zero, suc, ◌<◌, ◌≤◌}
use Rattle.common.specs.declared.Three.{Three}

-- three numbers by axis, and 0 past them
abbrev pub three : Three → (ℕ → ℕ)
three t zero = t.0
three t (suc zero) = t.1
three t (suc (suc zero)) = t.2
three t (suc (suc (suc a))) = 0

-- a dimension, and three numbers below a bound
pub record Small (D most : ℕ) (t : Three) : Type 0 where
  pub dimension_least : 1 ≤ D
  pub dimension_most : D ≤ 3
  pub first : t.0 < most
  pub second : t.1 < most
  pub third : t.2 < most
