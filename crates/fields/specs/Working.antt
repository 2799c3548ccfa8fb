-- What the private functions speak of; no public contract cites it.
use Rattle.std.specs.Prelude.{◌≡◌, List, ℕ, ◌+◌, ◌*◌, ◌≤◌, Float, length, get_or}
use Rattle.std.specs.Float.{nan}
use Rattle.common.specs.Floats.{plus, times}
use Rattle.common.specs.Lists.{stretch}
use Rattle.common.specs.Refusals.{most_points}
use Rattle.airs.specs.Airs.{air_of, number_of, ratio_or}
use Rattle.fields.specs.Fields.{answers_of, ratios_of}
use Rattle.airs.specs.declared.Air.{Air}

-- the answers, and the ratios over what was lent
abbrev pub told_of : (P : ℕ) → (ℕ → Air) → (ratios : List Float) → List ℕ × List Float
told_of P air lent = (answers_of P air, ratios_of P air lent)

-- values of all nodes at all points, and an entry a node in each expansion
pub record Evaluated (N P : ℕ) (v c n o : List Float) : Type 0 where
  pub nodes : N ≤ most_points
  pub few : P ≤ most_points
  pub values : length v ≡ N * P
  pub carbon_monoxide : length c ≡ N
  pub nitrogen : length n ≡ N
  pub oxygen : length o ≡ N

-- a run of points, and room for one gas there
pub record Runs (N P from count : ℕ) (v e gas : List Float) : Type 0 where
  pub nodes : N ≤ most_points
  pub few : P ≤ most_points
  pub values : length v ≡ N * P
  pub expansion : length e ≡ N
  pub points : from + count ≤ P
  pub room : count ≤ length gas

-- a sum at point i with two more terms, from the values at two places, each times a factor; and that of the sum in a list
abbrev pub with_two : (values : List Float) → (at next : ℕ) → (first second : Float) → (i : ℕ) → (sum : Float) → Float
with_two v at next x y i sum = plus (plus sum (times (get_or v (at + i) nan) x)) (times (get_or v (next + i) nan) y)

abbrev pub two_more : (values : List Float) → (at next : ℕ) → (first second : Float) → (sums : List Float) → (i : ℕ) → Float
two_more v at next x y sums i = with_two v at next x y i (get_or sums i nan)

-- a run of points whose gases are known, and room to tell of them
pub record Tells (from count c n o a r : ℕ) : Type 0 where
  pub carbon_monoxide : count ≤ c
  pub nitrogen : count ≤ n
  pub oxygen : count ≤ o
  pub answers : from + count ≤ a
  pub ratios : from + count ≤ r

-- the air where the gases are entry i of three lists
abbrev pub air_here : (floor : Float) → (co n2 o2 : List Float) → (i : ℕ) → Air
air_here floor c n o i = air_of floor (get_or c i nan) (get_or n i nan) (get_or o i nan)

-- the air at the points from one on
abbrev pub air_from : (from : ℕ) → (ℕ → Air) → (i : ℕ) → Air
air_from from air i = air (from + i)

-- what is told of a run of points, over what was lent
abbrev pub told_from : (from count : ℕ) → (ℕ → Air) → (answers : List ℕ) → (ratios : List Float) → List ℕ × List Float
told_from from count air a r = (
  stretch from count (λ i. number_of (air i)) a,
  stretch from count (λ i. ratio_or (air i) (get_or r (from + i) nan)) r,
)
