-- What the private functions speak of; no public contract cites it.
use Rattle.std.specs.Prelude.{cond, List, ◌≡◌, ℕ, ◌+◌, ◌-◌, ◌*◌, ◌/◌, ◌%◌, ◌^◌, eqb, leb, Float, length, get_or}
use Rattle.std.specs.Float.{nan}
use Rattle.common.specs.Floats.{times}
use Rattle.products.specs.Products.{place_of}
use Rattle.curvatures.specs.Curvatures.{pair_at, besides}
use Rattle.curvatures.specs.declared.pairs.Pair.{Pair}

-- the third axis of a product that starts with two; where there is none it is not read
abbrev pub third_axis : (D g h : ℕ) → ℕ
third_axis D g h = cond (leb D 2) (D - 1) (3 - (g + h))

-- row i of the column of node k for a pair, read from the buffers of S, S' and S''
module _ (D p P : ℕ) (factors slopes bends : List Float) where
  abbrev pub entry : (l : List Float) → (i k a : ℕ) → Float
  entry l i k a = get_or l (place_of D p P k a + i) nan

  abbrev pub pair_of : Pair → (i k : ℕ) → Float
  pair_of pair i k =
      let g = pair.first in
      let h = pair.second in
      besides g h (cond (eqb g h) (entry bends i k g) (times (entry slopes i k g) (entry slopes i k h))) D (entry factors i k)

  -- pair q has the columns q*N + k
  abbrev pub curvature_of : (i column : ℕ) → Float
  curvature_of i c = pair_of (pair_at D (c / p ^ D)) i (c % p ^ D)

-- the three buffers of S, S' and S'' have their lengths
pub record Filled (D p P : ℕ) (factors slopes bends : List Float) : Type 0 where
  pub long_factors : length factors ≡ D * p * P
  pub long_slopes : length slopes ≡ D * p * P
  pub long_bends : length bends ≡ D * p * P
