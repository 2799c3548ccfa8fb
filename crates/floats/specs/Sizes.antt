-- Two floats of one size, by their bits.
use Rattle.std.specs.Prelude.{◌≡◌, ℕ, ◌%◌, T, Float}
use Rattle.std.specs.Float.{Format}
use Rattle.std.specs.Float.Ieee.{to_bits, top}
use Rattle.std.specs.Float.Ieee.Scale.{finite}

-- the bits below a float's sign: 63 of a float of 64 bits
abbrev pub below : Format → Float → ℕ
below f x = to_bits f x % top f

-- both are finite, and all their bits are the same but for the sign
pub record SameSize (f : Format) (x y : Float) : Type 0 where
  pub finite_first : T (finite x)
  pub finite_second : T (finite y)
  pub bits : below f x ≡ below f y
