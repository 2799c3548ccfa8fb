-- Graham's ratio at a point, or why there is none.
use Rattle.std.specs.Prelude.{cond, ℕ, Float}
use Rattle.std.specs.Float.Ieee.{lt, of_bits}
use Rattle.std.specs.Float.{binary64}
use Rattle.std.specs.Float.Ieee.Scale.{finite}
use Rattle.common.specs.Floats.{minus, times, over}
use Rattle.airs.specs.declared.Air.{Air}
use Rattle.airs.specs.declared.Air.TheVariants.{Ratio, Unusable, Fresh}

-- 0.265 and 100
abbrev pub share₆₄ : Float
share₆₄ = of_bits binary64 0x3fd0f5c28f5c28f6

abbrev pub hundred₆₄ : Float
hundred₆₄ = of_bits binary64 0x4059000000000000

-- the oxygen that is missing, against what the nitrogen says: (0.265 * N2) - O2
unfoldable pub deficiency : (nitrogen oxygen : Float) → Float
deficiency n o = minus (times share₆₄ n) o

-- (100 * CO) / deficiency
unfoldable pub ratio : (carbonMonoxide deficiency : Float) → Float
ratio c d = over (times hundred₆₄ c) d

-- A deficiency that is not finite, then one below the floor, then a ratio that is not finite: the first of these decides.
unfoldable pub air_of : (floor carbonMonoxide nitrogen oxygen : Float) → Air
air_of floor c n o =
    let d = deficiency n o in
    let r = ratio c d in
    cond (finite d) (cond (lt d floor) Fresh (cond (finite r) (Ratio r) Unusable)) Unusable

-- the number that tells it
unfoldable pub number_of : Air → ℕ
number_of (Ratio r) = 0
number_of Unusable = 1
number_of Fresh = 2

-- its ratio, or else another float
unfoldable pub ratio_or : (air : Air) → (other : Float) → Float
ratio_or (Ratio r) other = r
ratio_or Unusable other = other
ratio_or Fresh other = other
