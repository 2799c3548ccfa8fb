-- Loops over axes fill stretches, one after the other: what each turn adds. Assumes nothing.
use mathlib.Core.Path.{◌≡◌, refl, sym, ap, ◌∙◌}
use mathlib.Core.Bool.{Bool, true, false, cond}
use mathlib.Core.List.{List}
use Prim.Native.Nat.{ℕ, ◌+◌, ◌-◌, ◌*◌, ◌/◌, ◌%◌, ◌<◌, ◌≤◌}
use native.Mathlib.Nat.{add-zero, zero-mul, mod-lt, div-lt_iff_lt-mul}
use native.Mathlib.Omega.{arith}
use lib.Arith.{digits_div, digits_mod}
use lib.Ieee.{Float, nan}
use lib.ListN.{length, take, drop, get_or}
use Rattle.common.specs.Floats.{times, sums}
use Rattle.common.specs.Lists.{stretch}
use Rattle.common.specs.Matrices.{cell, column_major}
use Rattle.common.specs.Refusals.{size_if}
use Rattle.common.proofs.Fill.{stretch_none, part_read, stretch_inside, stretch_cong, stretch_again, fill_on}
use Rattle.common.proofs.Matrices.{some_rows, cell_block, column_entry, columns_filled}
use Rattle.common.proofs.Steps.{Stepping, stepping_none}
use Rattle.common.proofs.Sums.{sums_cong}
use Rattle.common.specs.Matrices.{matrix}
use Rattle.chebyshev.specs.Polynomials.{at_points}
use Rattle.axes.specs.Axes.{on_axes, sum_of, sums_of}

-- the n entries of a list from place `at` on, as they are lent
abbrev pub part : (list : List Float) (at n : ℕ) → List Float
part list at n = take (at + n - at) (drop at list)

-- A LOOP over stretches of one size, whose place is the turn times the size

module _ (n count size : ℕ) (f : ℕ → Float) (before : List Float) where
  pub stepping_first : Stepping n count size f before before 0 (n + 0 * size)
  stepping_first = rw (zero-mul size, add-zero n) (stepping_none n count size f before)

  pub stepping_next : (after : List Float) (to i : ℕ) → Stepping n count size f before after (i + 1) to →
      Stepping n count size f before after (i + 1) (n + (i + 1) * size)
  stepping_next after to i h = rw (← h.place) h

-- S OF AN AXIS: its sums, finished

-- what is made of entries in place is made of what was stored there
pub made_of_stored : (f : Float → Float) (at n : ℕ) (g : ℕ → Float) (l stored next : List Float) → at + n ≤ length l →
    stored ≡ stretch at n g l → next ≡ stretch at n (λ k. f (get_or stored (at + k) nan)) stored → next ≡ stretch at n (λ k. f (g k)) l
made_of_stored f at n g l stored next fits s e =
    let entry : (k : ℕ) → k < n → f (get_or stored (at + k) nan) ≡ f (g k) =
    λ k b. ap f (rw s (stretch_inside at g l n k nan b (omega arith))) in
    e ∙ stretch_cong at n _ (λ k. f (g k)) stored entry ∙ rw s (stretch_again at n _ (λ k. f (g k)) l fits)

module _ (t : ℕ → Float → Float) (finish : Float → Float) (p P : ℕ) (x polynomials : List Float) where
  abbrev pub finished : (i n : ℕ) → Float
  finished i n = finish (sums p (λ k. times (t k (get_or x i nan)) (matrix p polynomials n k)))

  pub axis_finished : (columns l next : List Float) (at : ℕ) → columns ≡ at_points t p P x →
      next ≡ stretch at (p * P) (λ k. finish (sums_of p P columns polynomials k)) l → next ≡ stretch at (p * P) (cell P finished) l
  axis_finished columns l next at c e =
      let sum : (i n : ℕ) → i < P → sum_of p P columns polynomials i n ≡ sums p
      (λ k. times (t k (get_or x i nan)) (matrix p polynomials n k)) =
      λ i n b. sums_cong p _ _ (λ k m. rw (c, column_entry P (λ r j. t j (get_or x r nan)) p i k nan b m)) in
      e ∙ stretch_cong at (p * P) _ (cell P finished) l (λ k b. ap finish (sum (k % P) (k / P) (mod-lt k (some_rows p P k b))))

-- A BUFFER that is filled if it is wanted

pub wanted_yes : (with : Bool) (x y z : List Float) → with ≡ true → x ≡ y → x ≡ cond with y z
wanted_yes with x y z w e = rw w e

pub wanted_no : (with : Bool) (x y : List Float) → with ≡ false → x ≡ cond with y x
wanted_no with x y w = rw w

pub wanted_fits : (with : Bool) (m n k : ℕ) → m ≤ n → k ≡ size_if with n → size_if with m ≤ k
wanted_fits true m n k h e = rw e h
wanted_fits false m n k h e = omega arith

pub wanted_none : (with : Bool) (f : ℕ → Float) (l : List Float) → l ≡ cond with (stretch 0 0 f l) l
wanted_none true f l = sym (stretch_none 0 f l)
wanted_none false f l = refl

-- one stretch more
pub wanted_more : (with : Bool) (m at k : ℕ) (f g : ℕ → Float) (l now next : List Float) → at ≡ m → ((i : ℕ) → i < k → g i ≡ f (m + i)) →
    size_if with (m + k) ≤ length l → now ≡ cond with (stretch 0 m f l) l → next ≡ cond with (stretch at k g now) now →
    next ≡ cond with (stretch 0 (m + k) f l) l
wanted_more true m at k f g l now next a same fits h e = e ∙ rw (h, a) (fill_on m k f g l same fits)
wanted_more false m at k f g l now next a same fits h e = e ∙ h

-- all columns
pub wanted_filled : (with : Bool) (P columns : ℕ) (f : ℕ → ℕ → Float) (l now : List Float) → length l ≡ size_if with (columns * P) →
    now ≡ cond with (stretch 0 (columns * P) (cell P f) l) l → now ≡ cond with (column_major P columns f) l
wanted_filled true P columns f l now h e = e ∙ columns_filled P f columns l h
wanted_filled false P columns f l now h e = e

-- AN AXIS'S BLOCK of columns: node n of axis a has column a * p + n

module _ (t : ℕ → Float → Float) (p P : ℕ) (points : List Float) where
  abbrev pub axes_at : (i c : ℕ) → Float
  axes_at = on_axes t p (matrix P points)

  pub axis_block : (axis from : ℕ) → from ≡ axis * P →
      (j : ℕ) → j < p * P → cell P (λ i n. t n (get_or (part points from P) i nan)) j ≡ cell P axes_at (axis * (p * P) + j)
  axis_block axis from e j b =
      let some = some_rows p P j b in
      let node : j / P < p = (div-lt_iff_lt-mul some).1 b in
      sym (cell_block P axes_at p axis j b ∙ rw (
        digits_mod axis node,
        digits_div axis node,
        part_read from _ P points (j % P) nan refl
            (mod-lt j some),
        e,
      ))
