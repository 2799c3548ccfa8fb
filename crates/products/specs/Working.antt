-- What the private functions speak of; no public contract cites it.
use Rattle.std.specs.Prelude.{cond, ℕ, ◌-◌, eqb, leb}

-- The axes of a product that starts with axis g. Those past the dimension are not read; the last axis stands there, whose index is found
-- soonest.
abbrev pub second_axis : (D g : ℕ) → ℕ
second_axis D g = cond (leb D 1) 0 (cond (eqb g 0) 1 0)

abbrev pub third_axis : (D g : ℕ) → ℕ
third_axis D g = cond (leb D 2) (D - 1) (cond (eqb g 2) 1 2)
