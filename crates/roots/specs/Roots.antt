-- WHAT A SQUARE ROOT IS: the root of a binary64, an f64, rounded to the nearest one, said by whole numbers whose squares are compared.
use Rattle.std.specs.Prelude.{◌≡◌, true, false, ℕ, zero, suc, ◌+◌, ◌-◌, ◌*◌, ◌^◌, ◌≤◌, ◌<◌, Float}
use Rattle.std.specs.Float.{nan, inf, fin}
use Rattle.std.specs.Float.Ieee.Exact.{HasValue}

-- n is the whole number nearest to √a: 2n - 1 < 2√a < 2n + 1, with every side squared.
-- There is no tie to break: 4a is even and the square of 2n + 1 is odd, so √a never lies halfway between two whole numbers.
unfoldable pub Nearest : (a n : ℕ) → Type 0
Nearest a n = ((2 * n - 1) * (2 * n - 1) < 4 * a) × (4 * a < (2 * n + 1) * (2 * n + 1))

-- r is √x rounded to the nearest binary64, for a finite x above 0. (`HasValue x false p q` says that x is p / q.)
-- Every x is a * 2 ^ (2j - 2148) for one j at which a has 105 or 106 binary digits, since the smallest step of the format is 2 ^ -1074.
-- √a then has 53 digits before the point, as many as the format keeps. So the values of the format about √x, which is
-- √a * 2 ^ (j - 1074), are the whole multiples of 2 ^ (j - 1074), and r is the nearest of them. No root is subnormal or overflows.
pub record Rounded (x r : Float) : Type 0 where
  pub a : ℕ
  pub n : ℕ
  pub j : ℕ
  pub argument : HasValue x false (a * 4 ^ j) (2 ^ 2148)
  pub least : 2 ^ 104 ≤ a
  pub most : a < 2 ^ 106
  pub nearest : Nearest a n
  pub root : HasValue r false (n * 2 ^ j) (2 ^ 1074)

-- r is the square root of x. A zero, with its sign, and +∞ give themselves; a NaN and every number below 0, -∞ too, give a NaN.
unfoldable pub IsRoot : (x r : Float) → Type 0
IsRoot nan r = r ≡ nan
IsRoot (inf true) r = r ≡ nan
IsRoot (inf false) r = r ≡ inf false
IsRoot (fin s zero e) r = r ≡ fin s zero e
IsRoot (fin true (suc m) e) r = r ≡ nan
IsRoot (fin false (suc m) e) r = Rounded (fin false (suc m) e) r
