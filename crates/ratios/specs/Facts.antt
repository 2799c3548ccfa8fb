-- What the call promises to whoever reads a map. proofs/Facts.antt proves each of every call that is done.
use Rattle.std.specs.Prelude.{◌≡◌, true, false, List, ◌⊎◌, ℕ, ◌^◌, ◌<◌, Float, get_or}
use Rattle.std.specs.Float.{nan}
use Rattle.std.specs.Float.Ieee.{lt, le}
use Rattle.std.specs.Float.Ieee.Scale.{finite}
use Rattle.common.specs.Floats.{zero₆₄, inner}
use Rattle.coordinates.specs.Coordinates.{coordinate}
use Rattle.coefficients.specs.Coefficients.{value}
use Rattle.airs.specs.Airs.{deficiency, ratio}
use Rattle.fields.specs.Fields.{field}
use Rattle.ratios.specs.Ratios.{Memory, ratios_call}

-- a call with these arguments, the memory that it was lent, and what it leaves there
module _ (D p P : ℕ) (side floor : Float) (centre polynomials carbonMonoxide nitrogen oxygen : List Float)
    (points values factors : List Float) (answers : List ℕ) (ratios : List Float) (leaves : Memory) where
  -- it was done
  abbrev pub Done : Type 0
  Done =
      (0, leaves) ≡ ratios_call D p P side floor centre polynomials carbonMonoxide nitrogen oxygen (points, values, factors, answers, ratios)

  -- then its floor is finite and above 0
  abbrev pub FloorIsRight : Type 0
  FloorIsRight = Done → (lt zero₆₄ floor ≡ true) × (finite floor ≡ true)

  -- AT A POINT
  module _ (i : ℕ) where
    -- a gas, from the values that the call leaves; and the deficiency
    abbrev pub gas : (expansion : List Float) → Float
    gas expansion = field (p ^ D) P leaves.1 expansion i

    abbrev pub missing : Float
    missing = deficiency (gas nitrogen) (gas oxygen)

    -- the answer, and what stands in the ratio's place
    abbrev pub answer : ℕ
    answer = get_or leaves.3 i 0

    abbrev pub shown : Float
    shown = get_or leaves.4 i nan

    -- no ratio is shown: the place is as it was lent
    abbrev pub AsLent : Type 0
    AsLent = shown ≡ get_or ratios i nan

    -- 0: the deficiency is finite and at least the floor, and what is shown is the ratio, which is finite
    abbrev pub RatioIsRight : Type 0
    RatioIsRight =
        Done → i < P → answer ≡ 0 →
        (finite missing ≡ true) × (le floor missing ≡ true) × (finite shown ≡ true) × (shown ≡ ratio (gas carbonMonoxide) missing)

    -- 1: the deficiency is not finite; or it is at least the floor, and the ratio is not finite
    abbrev pub UnusableIsRight : Type 0
    UnusableIsRight =
        Done → i < P → answer ≡ 1 →
        ((finite missing ≡ false) ⊎ ((le floor missing ≡ true) × (finite (ratio (gas carbonMonoxide) missing) ≡ false))) × AsLent

    -- 2: the deficiency is finite and below the floor
    abbrev pub FreshIsRight : Type 0
    FreshIsRight = Done → i < P → answer ≡ 2 → (finite missing ≡ true) × (lt missing floor ≡ true) × AsLent

    -- there is no other answer
    abbrev pub OneOfThree : Type 0
    OneOfThree = Done → i < P → answer < 3

    -- no division by less than the floor is ever shown
    abbrev pub NothingBelowFloor : Type 0
    NothingBelowFloor = Done → i < P → lt missing floor ≡ true → (answer ≡ 0 → ⊥) × AsLent

    -- a gas is the product of document 01's value coefficients with its expansion
    abbrev pub GasIsProduct : Type 0
    GasIsProduct =
        Done → i < P → (expansion : List Float) →
        gas expansion ≡ inner (p ^ D) (value D p polynomials (coordinate P side centre points) i) (λ k. get_or expansion k nan)
