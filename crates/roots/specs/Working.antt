-- What the functions inside say of each other's arguments and answers; the contract of `square_root` cites none of it.
use Rattle.std.specs.Prelude.{◌≡◌, false, ℕ, ◌*◌, ◌/◌, ◌%◌, ◌^◌, ◌≤◌, ◌<◌, negsuc, Float}
use Rattle.std.specs.Float.{fin}
use Rattle.std.specs.Float.Ieee.Exact.{HasValue}
use Rattle.roots.specs.Roots.{Nearest}

-- 2 ^ -1022, the least binary64 above 0 that is not subnormal
abbrev pub least_normal : Float
least_normal = fin false 1 (negsuc 1021)

-- m is the digits, or twice the digits where odd is 1, for digits of 53 places: the digits at an even scale
pub record Even (m digits odd : ℕ) : Type 0 where
  pub is : m ≡ digits * 2 ^ odd
  pub bit : odd < 2
  pub low : 2 ^ 52 ≤ digits
  pub high : digits < 2 ^ 53

-- r is the root of digits * 2 ^ (scale - 2096), rounded
pub record Scaled (digits scale : ℕ) (r : Float) : Type 0 where
  pub n : ℕ
  pub nearest : Nearest (digits * 2 ^ (scale % 2) * 2 ^ 52) n
  pub root : HasValue r false (n * 2 ^ (scale / 2)) (2 ^ 1074)
