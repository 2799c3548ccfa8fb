-- A ratio map: what the call refuses, and what it leaves. What is said of the air at a point is in airs/specs/Airs.antt, and how the
-- gases come there in fields/specs/Fields.antt.
use Rattle.std.specs.Prelude.{Bool, false, cond, ◌&&◌, List, [], ℕ, ◌^◌, eqb, Float, length}
use Rattle.std.specs.Float.Ieee.{lt}
use Rattle.std.specs.Float.Ieee.Scale.{finite}
use Rattle.common.specs.Floats.{zero₆₄}
use Rattle.common.specs.Refusals.{wrong_length, no_floor, lower, unless, left}
use Rattle.fields.specs.Fields.{air_at, answers_of, ratios_of}
use Rattle.coefficients.specs.Before.{Memory as Below, coefficients_call}

-- the memory that is lent to be written: points, values, factors, answers, ratios
abbrev pub Memory : Type 0
Memory = List Float × List Float × List Float × List ℕ × List Float

-- a floor is finite and above 0
unfoldable pub is_floor : Float → Bool
is_floor floor = lt zero₆₄ floor && finite floor

unfoldable pub floor_number : (floor : Float) → ℕ
floor_number floor = unless (is_floor floor) no_floor 0

-- every buffer that scaling and coefficients do not take has its length
unfoldable pub lengths_fit : (N P : ℕ) → (carbonMonoxide nitrogen oxygen : List Float) → (answers : List ℕ) → (ratios : List Float) → Bool
lengths_fit N P c n o a r =
    eqb (length c) N && (eqb (length n) N && (eqb (length o) N && (eqb (length a) P && eqb (length r) P)))

unfoldable pub lengths_number : (N P : ℕ) → (carbonMonoxide nitrogen oxygen : List Float) → (answers : List ℕ) → (ratios : List Float) → ℕ
lengths_number N P c n o a r = unless (lengths_fit N P c n o a r) wrong_length 0

-- a number, or where that is none the one that comes after all others
unfoldable pub or_last : (number last : ℕ) → ℕ
or_last n last = cond (eqb n 0) last n

module _ (D p P : ℕ) (side floor : Float) (centre polynomials carbonMonoxide nitrogen oxygen : List Float) where
  -- points scaled and their coefficients, without gradients
  abbrev pub below : (points values factors : List Float) → ℕ × Below
  below x v f = coefficients_call D p P side false centre polynomials (x, v, [], f, [])

  -- what those refuse with, or a length of our own, the lower of the two; after all others the floor
  unfoldable pub ratios_number : Memory → ℕ
  ratios_number (x, v, f, a, r) =
      or_last (lower (below x v f).0 (lengths_number (p ^ D) P carbonMonoxide nitrogen oxygen a r)) (floor_number floor)

  -- points, values and factors as those leave them, and what is said of the air
  unfoldable pub told : Memory → Memory
  told (x, v, f, a, r) =
      let made = (below x v f).1 in
      let air = air_at (p ^ D) P floor made.1 carbonMonoxide nitrogen oxygen in
      (made.0, made.1, made.3, answers_of P air, ratios_of P air r)

  unfoldable pub ratios_call : Memory → ℕ × Memory
  ratios_call lent = (ratios_number lent, left (ratios_number lent) (told lent) lent)
