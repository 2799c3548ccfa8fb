-- What the private functions speak of; no public contract cites it.
use Rattle.std.specs.Prelude.{◌≡◌, List, ℕ, zero, suc, ◌+◌, ◌-◌, ◌*◌, ◌≤◌, Float, get_or, take, drop}
use Rattle.std.specs.Float.{nan}
use Rattle.common.specs.Lists.{stretch}
use Rattle.common.specs.Matrices.{cell, matrix}
use Rattle.bends.specs.Bends.{room_of}

-- f j at each of the points, one column a polynomial or a node, in place of a stretch
abbrev pub columns_at : (at p P : ℕ) → (f : ℕ → Float → Float) → (points : List Float) → List Float → List Float
columns_at at p P f points = stretch at (p * P) (cell P (λ i j. f j (get_or points i nan)))

-- the entries of a list from one place to another, as they are lent
abbrev pub between : (from to : ℕ) → List Float → List Float
between from to l = take (to - from) (drop from l)

-- the room once so many axes are done
unfoldable pub room_after : (axes p P : ℕ) → (points room : List Float) → List Float
room_after zero p P points room = room
room_after (suc a) p P points room = room_of p P (λ i. matrix P points i a)

-- the lengths with which one axis is found, from place `at` on
pub record AxisFit (p P at n f d b : ℕ) : Type 0 where
  pub points : n ≡ P
  pub factors : at + p * P ≤ f
  pub slopes : at + p * P ≤ d
  pub bends : at + p * P ≤ b

-- and those with which it is summed from the room
pub record SumsFit (p P at t r f d b : ℕ) : Type 0 where
  pub polynomials : t ≡ p * p
  pub room : r ≡ 3 * (p * P)
  pub factors : at + p * P ≤ f
  pub slopes : at + p * P ≤ d
  pub bends : at + p * P ≤ b
