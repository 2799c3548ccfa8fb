-- What a square root is known by, beside its definition. proofs/Only, Closest and Squares prove these of every float.
use Rattle.std.specs.Prelude.{◌≡◌, false, ℕ, ◌+◌, ◌*◌, ◌^◌, ◌<◌, T, Float}
use Rattle.std.specs.Float.{binary64}
use Rattle.std.specs.Float.Ieee.{fits}
use Rattle.std.specs.Float.Ieee.Exact.{HasValue}
use Rattle.roots.specs.Roots.{Rounded, IsRoot}
use Rattle.roots.specs.Values.{root}

-- √a is never halfway between n and n + 1: the square of 2√a is not that of 2n + 1
abbrev pub NoTie : (a n : ℕ) → Type 0
NoTie a n = 4 * a ≡ (2 * n + 1) * (2 * n + 1) → ⊥

-- the meaning leaves one value: two floats that are each a root of x are the same
abbrev pub OneRoot : (x r r' : Float) → Type 0
OneRoot x r r' = T (fits binary64 r) → T (fits binary64 r') → IsRoot x r → IsRoot x r' → r ≡ r'

-- Every other float lies farther off. With x = X * 2 ^ -2148 and the rounded root r = R * 2 ^ -1074, √x lies on r's side of the
-- middle between r and any y = Y * 2 ^ -1074: below it, 2√X < R + Y, where y is larger, and above it where y is smaller.
abbrev pub Closest : (x r y : Float) → (X R Y : ℕ) → Type 0
Closest x r y X R Y =
    Rounded x r → T (fits binary64 y) →
    HasValue x false X (2 ^ 2148) → HasValue r false R (2 ^ 1074) → HasValue y false Y (2 ^ 1074) →
    (R < Y → 4 * X < (R + Y) * (R + Y)) × (Y < R → (R + Y) * (R + Y) < 4 * X)

-- an exact square gives its root: where y is p / q and x is p² / q², the root of x is y
abbrev pub ExactSquare : (x y : Float) → (p q : ℕ) → Type 0
ExactSquare x y p q =
    T (fits binary64 x) → T (fits binary64 y) → 0 < p → 0 < q → HasValue y false p q → HasValue x false (p * p) (q * q) → root x ≡ y
