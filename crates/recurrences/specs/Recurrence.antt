-- The recurrences of the Chebyshev polynomials and of their first two derivatives, over any kind of numbers: floats, whole numbers,
-- polynomials.
use Rattle.std.specs.Prelude.{ℕ, zero, suc}

-- what the recurrences are made of: 0, 1 and x; sums and differences; the products by 2, by 4 and by 2x
pub record Numbers (A : Type 0) : Type 0 where
  pub nought : A
  pub unit : A
  pub x : A
  pub plus : A → A → A
  pub minus : A → A → A
  pub by2 : A → A
  pub by4 : A → A
  pub by2x : A → A

module _ {A : Type 0} (N : Numbers A) where
  -- 1, x, then (2x)*T(j-1) - T(j-2)
  unfoldable pub chebyshev : ℕ → A
  chebyshev zero = N.unit
  chebyshev (suc zero) = N.x
  chebyshev (suc (suc j)) = N.minus (N.by2x (chebyshev (suc j))) (chebyshev j)

  -- a derivative D of a sequence S: 0, the second, then (by S(j-1) + (2x)*D(j-1)) - D(j-2)
  unfoldable pub derived : (by : A → A) (second : A) (S : ℕ → A) → ℕ → A
  derived by second S zero = N.nought
  derived by second S (suc zero) = second
  derived by second S (suc (suc j)) = N.minus (N.plus (by (S (suc j))) (N.by2x (derived by second S (suc j)))) (derived by second S j)

  -- T': 0, 1, then ((2*T(j-1)) + ((2x)*T'(j-1))) - T'(j-2)
  abbrev pub chebyshev' : ℕ → A
  chebyshev' = derived N.by2 N.unit chebyshev

  -- T'': 0, 0, then ((4*T'(j-1)) + ((2x)*T''(j-1))) - T''(j-2)
  abbrev pub chebyshev'' : ℕ → A
  chebyshev'' = derived N.by4 N.nought chebyshev'
