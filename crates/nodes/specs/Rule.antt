-- The rule of a set of nodes, about the true polynomial and not about floats: a number x stands as the whole number x * 2 ^ 106, which
-- is exact for each node, and T_p is computed there with no rounding.
use Rattle.std.specs.Prelude.{Bool, true, false, cond, ℕ, zero, suc, ◌*◌, ◌/◌, ◌%◌, ◌^◌, ◌<◌, T, eqb, ℤ, pos, negsuc, neg_ℤ, ◌+ℤ◌, ◌-ℤ◌, ◌*ℤ◌, ◌<ℤ◌, Float}
use Rattle.std.specs.Float.{nan, inf, fin}
use Rattle.std.specs.Float.Ieee.{up, down}

abbrev pub one : ℤ
one = pos (2 ^ 106)

-- x * 2 ^ 106, cut to a whole number
unfoldable pub enlarged : Float → ℤ
enlarged nan = pos 0
enlarged (inf s) = pos 0
enlarged (fin s m e) = let n = m * up e * 2 ^ 106 / down e in cond s (neg_ℤ (pos n)) (pos n)

-- x is a number, and x * 2 ^ 106 is whole
unfoldable pub whole : Float → Bool
whole nan = false
whole (inf s) = false
whole (fin s m e) = eqb (m * up e * 2 ^ 106 % down e) 0

-- T_p at x / 2 ^ 106, times 2 ^ (106 p), by the rule T (p + 2) = 2 x T (p + 1) - T p
unfoldable pub chebyshev : ℕ → ℤ → ℤ
chebyshev zero x = pos 1
chebyshev (suc zero) x = x
chebyshev (suc (suc p)) x = pos 2 *ℤ x *ℤ chebyshev (suc p) x -ℤ one *ℤ one *ℤ chebyshev p x

-- one of the two is zero, or they have opposite signs
abbrev pub opposite : ℤ → ℤ → Bool
opposite (pos zero) b = true
opposite (pos (suc a)) (pos zero) = true
opposite (pos (suc a)) (pos (suc b)) = false
opposite (pos (suc a)) (negsuc b) = true
opposite (negsuc a) (pos b) = true
opposite (negsuc a) (negsuc b) = false

-- 1/64 and 2 ^ -48, times 2 ^ 106; proofs/NodesRight.antt has `gap_is` and `margin_is`
abbrev pub gap : ℤ
gap = pos (2 ^ 100)

abbrev pub margin : ℤ
margin = pos (2 ^ 58)

-- x p i is node i of order p, for a set of nodes x
module _ (x : ℕ → ℕ → Float) where
  unfoldable pub place : (p i : ℕ) → ℤ
  place p i = enlarged (x p i)

  -- What holds of node i of order p. It is a number, and times 2 ^ 106 it is whole; the next node of the order, if there is one, is
  -- more than 1/64 above it; and T_p is zero or has opposite signs 2 ^ -48 below it and 2 ^ -48 above it.
  pub record Node (p i : ℕ) : Type 0 where
    pub exact : T (whole (x p i))
    pub rises : suc i < p → (place p i +ℤ gap) <ℤ place p (suc i)
    pub crosses : T (opposite (chebyshev p (place p i -ℤ margin)) (chebyshev p (place p i +ℤ margin)))
