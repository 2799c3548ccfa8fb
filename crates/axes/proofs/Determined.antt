-- The contracts of this crate determine their results; the room that `fill_axes` is lent to work in is left open. Assumes nothing.
use mathlib.Core.Path.{◌≡◌, sym, ap, ◌∙◌, subst}
use mathlib.Core.Bool.{Bool, cond}
use mathlib.Core.List.{List}
use Prim.Native.Nat.{ℕ, ◌+◌, ◌*◌, ◌≤◌}
use native.Mathlib.Bridge.{le_prop}
use lib.Ieee.{Float, nan}
use lib.ListN.{get_or}
use Rattle.common.specs.Lists.{stretch}
use Rattle.common.specs.Matrices.{column_major}
use Rattle.std.specs.Prelude.{Result, IfOk}
use Rattle.common.specs.Numbers.{told_number}
use Rattle.common.specs.Refusals.{most_points}
use Rattle.common.specs.declared.refusals.Refusal.{Refusal}
use Rattle.common.specs.declared.shapes.Shape.{Shape}
use Rattle.common.proofs.Determined.{coincide, found_coincide, same_shapes}
use Rattle.axes.specs.Axes.{factor_of, slope_of, S, S', sums_of, made_at, grid_number}
use Rattle.axes.specs.declared.grids.Grid.{Grid}
use Rattle.axes.proofs.Stretches.{axes_at}

fill_axes_determined : (D p P : ℕ) (side : Float) (with : Bool) (points polynomials slopes f f' d d' : List Float) →
    (f ≡ column_major P (D * p) (axes_at (S p polynomials) p P points)) ×
    (d ≡ cond with (column_major P (D * p) (axes_at (S' p side polynomials) p P points)) slopes) →
    (f' ≡ column_major P (D * p) (axes_at (S p polynomials) p P points)) ×
    (d' ≡ cond with (column_major P (D * p) (axes_at (S' p side polynomials) p P points)) slopes) →
    (f ≡ f') × (d ≡ d')
fill_axes_determined D p P side with points polynomials slopes f f' d d' h h' =
    (coincide f f' _ h.0 h'.0, coincide d d' _ h.1 h'.1)

-- sums, and what they become: of the private `finish` over any stretch, and of the columns of an axis
module _ (at : ℕ) (l exit exit' : List Float) where
  finish_determined : (f : Float → Float) (count : ℕ) → exit ≡ stretch at count (λ k. f (get_or l (at + k) nan)) l →
      exit' ≡ stretch at count (λ k. f (get_or l (at + k) nan)) l → exit ≡ exit'
  finish_determined f count = coincide exit exit' _

  module _ (p P : ℕ) (columns polynomials : List Float) where
    sum_columns_determined : exit ≡ stretch at (p * P) (sums_of p P columns polynomials) l →
        exit' ≡ stretch at (p * P) (sums_of p P columns polynomials) l → exit ≡ exit'
    sum_columns_determined = coincide exit exit' _

    fill_columns_determined : (f : Float → Float) → exit ≡ made_at f at p P columns polynomials l →
        exit' ≡ made_at f at p P columns polynomials l → exit ≡ exit'
    fill_columns_determined f = coincide exit exit' _

    fill_factors_determined : exit ≡ made_at (factor_of p) at p P columns polynomials l →
        exit' ≡ made_at (factor_of p) at p P columns polynomials l → exit ≡ exit'
    fill_factors_determined = fill_columns_determined (factor_of p)

    fill_slopes_determined : (side : Float) → exit ≡ made_at (slope_of p side) at p P columns polynomials l →
        exit' ≡ made_at (slope_of p side) at p P columns polynomials l → exit ≡ exit'
    fill_slopes_determined side = fill_columns_determined (slope_of p side)

-- OF A TESTED GRID

-- grids are the same by their numbers: that the points are few is a proposition
abbrev counted : (shape : Shape) → (side : Float) → (rows : ℕ) → rows ≤ most_points → Grid
counted shape side rows few = record { shape = shape; side = side; rows = rows; few = few }

same_grids : (g h : Grid) → g.shape ≡ h.shape → g.side ≡ h.side → g.rows ≡ h.rows → g ≡ h
same_grids g h p q r =
    subst (λ (n : ℕ). (few : n ≤ most_points) → g ≡ counted h.shape h.side n few) r
    (subst (λ (x : Float). (few : g.rows ≤ most_points) → g ≡ counted h.shape x g.rows few) q
    (subst (λ (s : Shape). (few : g.rows ≤ most_points) → g ≡ counted s g.side g.rows few) p
    (λ few. ap (counted g.shape g.side g.rows) (le_prop g.few few)))) h.few

-- what `Grid::new` says of a grid that it makes
abbrev Made : (dimension order : ℕ) → (side : Float) → (rows : ℕ) → Grid → Type 0
Made D p side P g = (g.shape.dimension ≡ D) × (g.shape.order ≡ p) × (g.side ≡ side) × (g.rows ≡ P)

new_determined : (dimension order : ℕ) (side : Float) (rows : ℕ) (r r' : Result Grid Refusal) →
    told_number r ≡ grid_number dimension order rows → told_number r' ≡ grid_number dimension order rows →
    IfOk r (Made dimension order side rows) → IfOk r' (Made dimension order side rows) → r ≡ r'
new_determined D p side P r r' =
    found_coincide (Made D p side P)
    (λ g h m m'. same_grids g h (same_shapes g.shape h.shape (m.0 ∙ sym m'.0) (m.1 ∙ sym m'.1)) (m.2 ∙ sym m'.2) (m.3 ∙ sym m'.3))
    (grid_number D p P) r r'

on_axis_determined : (order rows r r' : ℕ) → r ≡ order * rows → r' ≡ order * rows → r ≡ r'
on_axis_determined order rows r r' = coincide r r' (order * rows)
