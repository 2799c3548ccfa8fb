-- What the code on one node speaks of; no public call's contract cites it. How a vector turns its reference, by axis.
use Rattle.std.specs.Prelude.{ℕ, zero, suc, ◌<◌, Bool, cond, ltb, eqb}
use Rattle.common.specs.Factorials.{factorial}
use Rattle.common.specs.Refusals.{Shape}
use Rattle.common.specs.Threes.{three}
use Rattle.common.specs.declared.Three.{Three}
use Rattle.vectors.specs.Order.{axis, place}
use Rattle.vectors.specs.declared.Turn.{Turn}
use Rattle.turn_tables.specs.Turned.{reversed}

-- the entry on an axis is negative
abbrev pub negative_on : Turn → ℕ → Bool
negative_on t zero = t.first
negative_on t (suc zero) = t.second
negative_on t (suc (suc a)) = t.third

-- the image's index on an axis, of a node with these indices; 0 past the dimension
unfoldable pub image_index : (D p : ℕ) → Turn → Three → (a : ℕ) → ℕ
image_index D p t n a = cond (ltb a D) (reversed p (negative_on t a) (three n (place D t.order a))) 0

-- each index reversed where the entry is negative
unfoldable pub reversed_all : (p : ℕ) → Turn → Three → Three
reversed_all p t n = (reversed p t.first n.0, reversed p t.second n.1, reversed p t.third n.2)

unfoldable pub origin_index : (D k : ℕ) → (back : Three) → (m : ℕ) → ℕ
origin_index D k back m = cond (ltb m D) (three back (axis D k m)) 0

-- the place of one of the two other axes, of which number k stands before the other
abbrev pub place_of_other : (other k : ℕ) → ℕ
place_of_other a k = cond (eqb a k) 1 2

-- what one node asks for: a shape, an order of its axes, and indices below p
pub record Followable (D p : ℕ) (t : Turn) (n : Three) : Type 0 where
  pub shape : Shape D p
  pub order : t.order < factorial D
  pub below : (a : ℕ) → three n a < p
