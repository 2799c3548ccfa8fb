-- A column by its number: the first, the second, and the later ones, which have two columns before them. Assumes nothing.
use mathlib.Core.Path.{◌≡◌, refl}
use mathlib.Core.List.{List}
use Prim.Native.Nat.{ℕ, zero, suc, ◌+◌, ◌-◌, ◌*◌, ◌<◌, ◌≤◌}
use native.Mathlib.Nat.{mul-le-mul}
use native.Mathlib.Omega.{arith}
use lib.Ieee.{Float, nan}
use lib.ListN.{length, get_or}
use Rattle.common.specs.Lists.{stretch}
use Rattle.common.proofs.Fill.{Filling, filling_before}
use Rattle.common.proofs.Matrices.{next_column}
use Rattle.polynomial_columns.specs.Working.{column_of}

-- while a column is filled, the two before it are as they were
pub both_before : (at rows : ℕ) (f : ℕ → Float) (start now : List Float) (i : ℕ) → Filling at rows f start now i → rows + rows ≤ at →
    at + rows ≤ length start → i < rows →
    (get_or now (at - rows + i) nan ≡ get_or start (at - rows + i) nan)
    × (get_or now (at - rows - rows + i) nan ≡ get_or start (at - rows - rows + i) nan)
both_before at rows f start now i h two fits l = (
  filling_before at rows f start now i (at - rows + i) nan h (omega arith) (omega arith),
  filling_before at rows f start now i (at - rows - rows + i) nan h (omega arith) (omega arith),
)

-- a column ends where the next begins
pub column_end : (j rows long : ℕ) → (j + 1) * rows ≤ long → j * rows + rows ≤ long
column_end j rows long h = let e = next_column j rows in omega arith

-- from the third column on there are two columns before
pub two_before : (j rows at : ℕ) → at ≡ j * rows → (j ≡ 0 → ⊥) → (j ≡ 1 → ⊥) → rows + rows ≤ at
two_before j rows at e a b = let two = mul-le-mul {n₁ = 2} {m₁ = rows} {n₂ = j} {m₂ = rows} (omega arith) (omega arith) in omega arith

module _ (first second later : ℕ → Float) (j : ℕ) where
  pub is_first : j ≡ 0 → column_of first second later j ≡ first
  unfolding column_of
  is_first e = rw e

  pub is_second : j ≡ 1 → column_of first second later j ≡ second
  unfolding column_of
  is_second e = rw e

pub is_later : (first second later : ℕ → Float) (j : ℕ) → (j ≡ 0 → ⊥) → (j ≡ 1 → ⊥) → column_of first second later j ≡ later
unfolding column_of
is_later first second later zero a b = absurd (a refl)
is_later first second later (suc zero) a b = absurd (b refl)
is_later first second later (suc (suc j)) a b = refl

-- the first two columns of T'' are alike
pub is_early : (f later : ℕ → Float) (j : ℕ) → j < 2 → column_of f f later j ≡ f
unfolding column_of
is_early f later zero h = refl
is_early f later (suc zero) h = refl
is_early f later (suc (suc j)) h = absurd (omega arith)

-- the same column under its number
pub in_place : (at rows : ℕ) (l : List Float) (f g : ℕ → Float) → g ≡ f → stretch at rows f l ≡ stretch at rows g l
in_place at rows l f g e = rw e
