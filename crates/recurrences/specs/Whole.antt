-- The recurrences are right: over polynomials with whole coefficients T' is the derivative of T and T'' that of T', for every order; and
-- the recurrences over whole numbers give the values of these polynomials.
use Rattle.std.specs.Prelude.{◌≡◌, ℕ, zero, suc, ◌<◌, ℤ, pos, ◌+ℤ◌, ◌-ℤ◌, ◌*ℤ◌}
use Rattle.std.proofs.Math.IntN.{pow}
use Rattle.recurrences.specs.Recurrence.{Numbers, chebyshev, chebyshev', chebyshev''}

-- a polynomial is its coefficients: that of x ^ k is c k
abbrev pub Polynomial : Type 0
Polynomial = ℕ → ℤ

abbrev pub constant : ℤ → Polynomial
constant a zero = a
constant a (suc k) = pos 0

abbrev pub scaled : ℤ → Polynomial → Polynomial
scaled a c k = a *ℤ c k

-- x times a polynomial
abbrev pub raised : Polynomial → Polynomial
raised c zero = pos 0
raised c (suc k) = c k

abbrev pub derivative : Polynomial → Polynomial
derivative c k = pos (suc k) *ℤ c (suc k)

-- the sum of the first n terms, c 0 + c 1 * x + .. + c (n - 1) * x ^ (n - 1)
unfoldable pub value : (n : ℕ) → Polynomial → ℤ → ℤ
value zero c x = pos 0
value (suc n) c x = value n c x +ℤ c n *ℤ pow x n

-- THE TWO KINDS OF NUMBERS

abbrev pub polynomials : Numbers Polynomial
polynomials =
    record {
      nought = λ k. pos 0;
      unit = constant (pos 1);
      x = raised (constant (pos 1));
      plus = λ c d k. c k +ℤ d k;
      minus = λ c d k. c k -ℤ d k;
      by2 = scaled (pos 2);
      by4 = scaled (pos 4);
      by2x = λ c. scaled (pos 2) (raised c);
    }

-- whole numbers, one of which is called x
abbrev pub wholes : ℤ → Numbers ℤ
wholes x =
    record {
      nought = pos 0;
      unit = pos 1;
      x = x;
      plus = ◌+ℤ◌;
      minus = ◌-ℤ◌;
      by2 = λ t. pos 2 *ℤ t;
      by4 = λ t. pos 4 *ℤ t;
      by2x = λ t. pos 2 *ℤ x *ℤ t;
    }

-- WHAT HOLDS for each j: two derivatives, coefficient by coefficient; no term past x ^ j; and the values at a whole number x
pub record Right (j : ℕ) : Type 0 where
  pub first : (k : ℕ) → chebyshev' polynomials j k ≡ derivative (chebyshev polynomials j) k
  pub second : (k : ℕ) → chebyshev'' polynomials j k ≡ derivative (chebyshev' polynomials j) k
  pub ends : (k : ℕ) → j < k → chebyshev polynomials j k ≡ pos 0
  pub values : (n : ℕ) → j < n → (x : ℤ) → value n (chebyshev polynomials j) x ≡ chebyshev (wholes x) j
  pub slopes : (n : ℕ) → j < n → (x : ℤ) → value n (chebyshev' polynomials j) x ≡ chebyshev' (wholes x) j
  pub curvatures : (n : ℕ) → j < n → (x : ℤ) → value n (chebyshev'' polynomials j) x ≡ chebyshev'' (wholes x) j
