-- Refusal 11 as specs/Cells.antt states it: a scaling that is done leaves the points in the cell, and one that answers 11 refuses them for
-- their places alone. Assumes nothing.
use mathlib.Core.Path.{◌≡◌, sym, ap, ◌∙◌}
use mathlib.Core.Bool.{Bool, true, false, cond, ◌&&◌}
use mathlib.Core.List.{List}
use Prim.Native.Nat.{ℕ, ◌+◌, ◌*◌, ◌/◌, ◌%◌, ◌<◌}
use native.Mathlib.Nat.{mod-lt, div-lt_iff_lt-mul, div-add-mod'}
use native.Mathlib.Omega.{arith}
use lib.Arith.{digits_lt}
use lib.Dec.{leb, eqb}
use lib.Ieee.{Float, nan}
use lib.Ieee.Scale.{finite}
use lib.ListN.{length, get_or}
use borrow.Author.Tests.{eq-eqb, eqb-true}
use Rattle.common.specs.Matrices.{matrix, column_major}
use Rattle.common.specs.Refusals.{is_dimension, is_cell, most_points}
use Rattle.common.proofs.Cases.{by_bool, by_eq, equal_and}
use Rattle.common.proofs.Limits.{left_done, left_refused, past}
use Rattle.common.proofs.Matrices.{some_rows, column_length, column_entry}
use Rattle.common.proofs.Tests.{each_of}
use Rattle.coordinates.specs.Coordinates.{all_finite, coordinate, in_cell, all_in_cell, points_number}
use Rattle.coordinates.specs.Scaling.{scaling_fits, scaling_number, scale_call}
use Rattle.coordinates.specs.Cells.{centred, LeftInCell, RefusedForPlaces}
use Rattle.coordinates.proofs.InCell.{centre_in_cell, cell_finite}
use Rattle.coordinates.proofs.Numbers.{finite_at, in_cell_at, taken_in_cell, outside_finite, number_none}
use Rattle.coordinates.proofs.Scalings.{scaling_taken}

-- a matrix of finite entries
column_finite : (D P : ℕ) (f : (i a : ℕ) → Float) → ((i a : ℕ) → i < P → a < D → finite (f i a) ≡ true) →
    all_finite (column_major P D f) ≡ true
unfolding all_finite
column_finite D P f h =
    each_of (length (column_major P D f)) _ (λ k b.
    let inside : k < D * P = rw (column_length P f D) at b in
    let some = some_rows D P k inside in
    let row : k % P < P = mod-lt k some in
    let axis : k / P < D = (div-lt_iff_lt-mul some).1 inside in
    let here : get_or (column_major P D f) k nan ≡ f (k % P) (k / P) =
    ap (λ (n : ℕ). get_or (column_major P D f) n nan) (sym (div-add-mod' k P)) ∙ column_entry P f D (k % P) (k / P) nan row axis in
    rw here (h (k % P) (k / P) row axis))

-- SOME POINTS AT THE CENTRE

module _ (D P : ℕ) (moved : ℕ → Bool) (centre x : List Float) (long : length x ≡ D * P) (axes : length centre ≡ D) where
  abbrev entry : (i a : ℕ) → Float
  entry i a = cond (moved i) (get_or centre a nan) (matrix P x i a)

  centred_length : length (centred D P moved centre x) ≡ D * P
  unfolding centred
  centred_length = column_length P entry D

  centred_at : (i a : ℕ) → i < P → a < D → matrix P (centred D P moved centre x) i a ≡ entry i a
  unfolding centred
  centred_at i a l m = column_entry P entry D i a nan l m

  module _ (fx : all_finite x ≡ true) (fc : all_finite centre ≡ true) where
    entry_finite : (i a : ℕ) → i < P → a < D → finite (entry i a) ≡ true
    entry_finite i a l m =
        by_bool (moved i)
        (λ y. rw y (finite_at centre fc a (rw axes m)))
        (λ n. rw n (finite_at x fx (a * P + i) (rw long (digits_lt m l))))

    centred_finite : all_finite (centred D P moved centre x) ≡ true
    unfolding centred
    centred_finite = column_finite D P entry entry_finite

    module _ (side : Float) (cell : is_cell side ≡ true)
        (others : (i a : ℕ) → i < P → a < D → moved i ≡ false → in_cell (coordinate P side centre x i a) ≡ true) where
      centred_in_cell : all_in_cell D P (coordinate P side centre (centred D P moved centre x)) ≡ true
      unfolding all_in_cell
      centred_in_cell =
          each_of D _ (λ a m. each_of P _ (λ i l. rw (centred_at i a l m)
          (by_bool (moved i)
          (λ y. rw y (centre_in_cell side (get_or centre a nan) cell (finite_at centre fc a (rw axes m))))
          (λ n. rw n (others i a l m n)))))

      centred_taken : 0 ≡ points_number D P side centre (centred D P moved centre x)
      centred_taken = number_none D P side centre (centred D P moved centre x) cell centred_finite fc centred_in_cell

-- THE CALL

module _ (D P : ℕ) (side : Float) (centre x : List Float) where
  pub left_in_cell : LeftInCell D P side centre x
  unfolding scale_call in_cell
  left_in_cell out e i a l m =
      let none : scaling_number D P side centre x ≡ 0 = sym (ap (λ (r : ℕ × List Float). r.0) e) in
      let made : out ≡ column_major P D (coordinate P side centre x) =
      ap (λ (r : ℕ × List Float). r.1) e ∙ left_done _ (column_major P D (coordinate P side centre x)) x none in
      rw (made, column_entry P (coordinate P side centre x) D i a nan l m)
      (in_cell_at D P (coordinate P side centre x)
      (taken_in_cell D P side centre x (scaling_taken D P side centre x none).number) i a l m)

  pub refused_for_places : RefusedForPlaces D P side centre x
  unfolding scale_call scaling_number scaling_fits
  refused_for_places moved e others =
      let one = past (is_dimension D) 1 _ 11 e (λ q. omega arith) in
      let two = past (leb P most_points) 3 _ 11 one.1 (λ q. omega arith) in
      let three = past (eqb (length centre) D && eqb (length x) (D * P)) 7 _ 11 two.1 (λ q. omega arith) in
      let axes = equal_and (length centre) D _ three.0 in
      let long = eqb-true (length x) (D * P) axes.1 in
      let right = outside_finite D P side centre x three.1 in
      let same = centred_length D P moved centre x long axes.0 in
      rw (one.0, two.0, eq-eqb (length centre) D axes.0, eq-eqb (length (centred D P moved centre x)) (D * P) same)
      (sym (centred_taken D P moved centre x long axes.0 right.1 right.2 side right.0 others))

  -- what is finite stays so: refused points are as they came, and scaled ones are in the cell
  pub scaled_finite : all_finite x ≡ true → all_finite (scale_call D P side centre x).1 ≡ true
  unfolding scale_call
  scaled_finite h =
      let made = column_major P D (coordinate P side centre x) in
      by_eq (scaling_number D P side centre x) 0
      (λ z _. rw (left_done _ made x z) (column_finite D P (coordinate P side centre x)
      (λ i a l m. cell_finite _ (in_cell_at D P (coordinate P side centre x)
      (taken_in_cell D P side centre x (scaling_taken D P side centre x z).number) i a l m))))
      (λ n _. rw (left_refused _ made x n) h)
