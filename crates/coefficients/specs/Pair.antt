-- What the two calls are held to: the one call that they replace (specs/Before). proofs/Pairs.antt proves each.
use Rattle.std.specs.Prelude.{◌≡◌, Bool, true, false, List, ℕ, Float}
use Rattle.common.specs.Refusals.{lower}
use Rattle.coordinates.specs.Scaling.{scale_call}
use Rattle.coefficients.specs.Coefficients.{Memory, coefficients_call}
use Rattle.coefficients.specs.Before.{coefficients_call as before}
use Rattle.coefficients.specs.declared.wanted.Wanted.{Wanted}
use Rattle.coefficients.specs.declared.wanted.Wanted.TheVariants.{Values, Gradients}

-- what is wanted of a cell with this side
abbrev pub wanted_of : (with : Bool) → (side : Float) → Wanted
wanted_of false side = Values
wanted_of true side = Gradients side

module _ (D p P : ℕ) (side : Float) (with : Bool) (centre t x v g f d : List Float) where
  -- the points are scaled; the coefficients are asked at what that leaves, which are the points as they came where it refuses
  abbrev pub scaled : ℕ × List Float
  scaled = scale_call D P side centre x

  abbrev pub found : ℕ × Memory
  found = coefficients_call D p P (wanted_of with side) t scaled.1 (v, g, f, d)

  -- the lowest number of the two is the old one; so one of them refuses exactly where the old call did
  abbrev pub LowestOfTwo : Type 0
  LowestOfTwo = lower scaled.0 found.0 ≡ (before D p P side with centre t (x, v, g, f, d)).0

  -- and so it is where the second call is asked about the points as they came, before any is scaled: so a caller can know all refusals
  -- first
  abbrev pub LowestAskedFirst : Type 0
  LowestAskedFirst =
      lower scaled.0 (coefficients_call D p P (wanted_of with side) t x (v, g, f, d)).0
      ≡ (before D p P side with centre t (x, v, g, f, d)).0

  -- where both accept, the two in turn leave what the old call left, in every buffer
  abbrev pub InTurn : Type 0
  InTurn =
      scaled.0 ≡ 0 → found.0 ≡ 0 →
      before D p P side with centre t (x, v, g, f, d) ≡ (0, (scaled.1, found.1.0, found.1.1, found.1.2, found.1.3))

-- Values, and then values and gradients, at the same coordinates: the values agree bit for bit.
abbrev pub SameValues : Type 0
SameValues =
    (D p P : ℕ) (side : Float) (t x v f v' g f' d : List Float) (g₀ d₀ : List Float) →
    (coefficients_call D p P Values t x (v, g₀, f, d₀)).0 ≡ 0 → (coefficients_call D p P (Gradients side) t x (v', g, f', d)).0 ≡ 0 →
    (coefficients_call D p P Values t x (v, g₀, f, d₀)).1.0 ≡ (coefficients_call D p P (Gradients side) t x (v', g, f', d)).1.0
