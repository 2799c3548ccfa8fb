-- What the private functions speak of; no public contract cites it.
use Rattle.std.specs.Prelude.{◌≡◌, Bool, List, ℕ, ◌+◌, ◌*◌, ◌≤◌, Float, get_or}
use Rattle.std.specs.Float.{nan}
use Rattle.common.specs.Matrices.{cell}
use Rattle.common.specs.Refusals.{size_if}

-- f n at each of the points, one column a node, by their places
abbrev pub at_nodes : (f : (n : ℕ) → Float → Float) → (P : ℕ) → (points : List Float) → (k : ℕ) → Float
at_nodes f P points = cell P (λ i n. f n (get_or points i nan))

-- the lengths with which one axis is filled, from place `at` on
pub record AxisFit (p P : ℕ) (with : Bool) (at n t tn dtn f d : ℕ) : Type 0 where
  pub points : n ≡ P
  pub polynomials : t ≡ p * p
  pub values : tn ≡ p * P
  pub derivatives : dtn ≡ size_if with (p * P)
  pub factors : at + p * P ≤ f
  pub slopes : size_if with (at + p * P) ≤ d
