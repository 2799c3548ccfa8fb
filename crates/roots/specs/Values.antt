-- The square root as a function, for contracts that want an equation: the one value that `IsRoot` allows (proofs/Values.antt).
use Rattle.std.specs.Prelude.{◌≡◌, true, false, cond, ℕ, zero, suc, ◌+◌, ◌-◌, ◌*◌, ◌/◌, ◌^◌, leb, ltb, Float}
use Rattle.std.specs.Float.{nan, inf, fin, binary64}
use Rattle.std.specs.Float.Ieee.{up, down, size, units}
use Rattle.roots.specs.Roots.{IsRoot}

-- the largest whole number whose square is at most a, for an a below 4 ^ k: twice that of a / 4, or one more
unfoldable pub floor_root : (k a : ℕ) → ℕ
floor_root zero a = zero
floor_root (suc k) a = let r = floor_root k (a / 4) in cond (leb ((2 * r + 1) * (2 * r + 1)) a) (2 * r + 1) (2 * r)

-- the whole number nearest to √a, for an a below 4 ^ 53
unfoldable pub nearest_root : (a : ℕ) → ℕ
nearest_root a = let r = floor_root 53 a in cond (ltb (r * r + r) a) (suc r) r

-- the j at which a number of so many digits has 105 or 106 of them
abbrev pub scale_of : (digits : ℕ) → ℕ
scale_of digits = (digits - 105) / 2

-- the root of X * 2 ^ -2148; `units binary64 false n j` is n * 2 ^ (j - 1074)
abbrev pub root_of : (X : ℕ) → Float
root_of X = let j = scale_of (size X) in units binary64 false (nearest_root (X / 4 ^ j)) j

-- the square root of x; a finite number is m * up e / down e
unfoldable pub root : (x : Float) → Float
root nan = nan
root (inf true) = nan
root (inf false) = inf false
root (fin s zero e) = fin s zero e
root (fin true (suc m) e) = nan
root (fin false (suc m) e) = root_of (suc m * up e * 2 ^ 2148 / down e)

-- WHAT `square_root` ANSWERS: the root by its meaning, which is that value
pub record SquareRoot (x r : Float) : Type 0 where
  pub meaning : IsRoot x r
  pub value : r ≡ root x
