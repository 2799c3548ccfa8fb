-- The Chebyshev polynomials T, their derivatives T' and their second derivatives T'' at a float, operation by operation, from the
-- recurrences.
use Rattle.std.specs.Prelude.{ℕ, zero, suc, Float}
use Rattle.std.specs.Float.Ieee.{of_bits}
use Rattle.std.specs.Float.{binary64}
use Rattle.common.specs.Floats.{plus, minus, times, zero₆₄, one₆₄, two₆₄}

abbrev pub four₆₄ : Float
four₆₄ = of_bits binary64 0x4010000000000000

-- one step of the recurrence, from the two values before: (2x)*T(j-1) - T(j-2)
abbrev pub next_T : (x t1 t2 : Float) → Float
next_T x t1 t2 = minus (times (times two₆₄ x) t1) t2

-- T0 = 1, T1 = x
unfoldable pub T : (j : ℕ) → Float → Float
T zero x = one₆₄
T (suc zero) x = x
T (suc (suc j)) x = next_T x (T (suc j) x) (T j x)

-- and of the derivatives: ((2*T(j-1)) + ((2x)*T'(j-1))) - T'(j-2)
abbrev pub next_T' : (x t1 d1 d2 : Float) → Float
next_T' x t1 d1 d2 = minus (plus (times two₆₄ t1) (times (times two₆₄ x) d1)) d2

-- T'0 = 0, T'1 = 1
unfoldable pub T' : (j : ℕ) → Float → Float
T' zero x = zero₆₄
T' (suc zero) x = one₆₄
T' (suc (suc j)) x = next_T' x (T (suc j) x) (T' (suc j) x) (T' j x)

-- and of the second derivatives: ((4*T'(j-1)) + ((2x)*T''(j-1))) - T''(j-2)
abbrev pub next_T'' : (x d1 s1 s2 : Float) → Float
next_T'' x d1 s1 s2 = minus (plus (times four₆₄ d1) (times (times two₆₄ x) s1)) s2

-- T''0 = 0, T''1 = 0
unfoldable pub T'' : (j : ℕ) → Float → Float
T'' zero x = zero₆₄
T'' (suc zero) x = zero₆₄
T'' (suc (suc j)) x = next_T'' x (T' (suc j) x) (T'' (suc j) x) (T'' j x)
