-- The floats that the calls give go by the same recurrences, operation by operation.
use Rattle.std.specs.Prelude.{◌≡◌, ℕ, Float}
use Rattle.common.specs.Floats.{plus, minus, times, zero₆₄, one₆₄, two₆₄}
use Rattle.polynomial_columns.specs.Recurrence.{T, T', T'', four₆₄}
use Rattle.recurrences.specs.Recurrence.{Numbers, chebyshev, chebyshev', chebyshev''}

-- the floats, one of which is called x: each operation rounds once
abbrev pub floats : Float → Numbers Float
floats x =
    record {
      nought = zero₆₄;
      unit = one₆₄;
      x = x;
      plus = plus;
      minus = minus;
      by2 = times two₆₄;
      by4 = times four₆₄;
      by2x = times (times two₆₄ x);
    }

-- T, T' and T'' at a float are what the recurrences give there
pub record SameRule (j : ℕ) (x : Float) : Type 0 where
  pub values : T j x ≡ chebyshev (floats x) j
  pub slopes : T' j x ≡ chebyshev' (floats x) j
  pub bends : T'' j x ≡ chebyshev'' (floats x) j
