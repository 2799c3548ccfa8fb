-- A column of distances: the squares of one axis after the other are added, and then the roots taken. Assumes nothing.
use mathlib.Core.Path.{◌≡◌, sym, ap, ◌∙◌}
use mathlib.Core.List.{List}
use Prim.Native.Nat.{ℕ, zero, suc, ◌+◌, ◌-◌, ◌*◌, ◌<◌, ◌≤◌}
use native.Mathlib.Nat.{zero-mul, zero-add, one-mul}
use native.Mathlib.Omega.{arith}
use lib.Ieee.{Float, nan}
use lib.ListN.{length, get_or}
use Rattle.common.specs.Floats.{plus}
use Rattle.common.specs.Lists.{tabulate}
use Rattle.common.specs.Matrices.{matrix}
use Rattle.common.proofs.Fill.{length_tabulate, get_d_tabulate, tabulate_cong}
use Rattle.common.proofs.Matrices.{next_column}
use Rattle.roots.specs.Values.{root}
use Rattle.distances.specs.Distances.{apart, added}
use Rattle.distances.specs.Working.{between, summed}

-- sums of the same squares
pub added_cong : (n : ℕ) (f g : ℕ → Float) → ((a : ℕ) → a ≤ n → f a ≡ g a) → added n f ≡ added n g
unfolding added
added_cong zero f g h = h 0 (omega arith)
added_cong (suc n) f g h =
    let before : added n f ≡ added n g = added_cong n f g (λ a l. h a (omega arith)) in
    let last : f (suc n) ≡ g (suc n) = h (suc n) (omega arith) in
    rw (before, last)

module _ (D rows : ℕ) (sources targets : List Float) (target : ℕ) where
  abbrev square_on : (i a : ℕ) → Float
  square_on i a = apart (matrix rows sources i a) (matrix rows targets target a)

  -- what the loop keeps: the squares of the first axes are added, and the next axis begins at `at`
  pub record Summing (column : List Float) (axis at : ℕ) : Type 0 where
    pub some : 1 ≤ axis
    pub most : axis ≤ D
    pub place : at ≡ axis * rows
    pub made : column ≡ tabulate rows (summed rows sources targets target (axis - 1))

  pub summing_long : (column : List Float) (axis at : ℕ) → Summing column axis at → length column ≡ rows
  summing_long column axis at h = rw h.made (length_tabulate rows (summed rows sources targets target (axis - 1)))

  pub summing_first : (column : List Float) → 1 ≤ D →
      column ≡ tabulate rows (λ i. apart (get_or sources i nan) (get_or targets target nan)) → Summing column 1 rows
  unfolding added
  summing_first column d e =
      record {
        some = omega arith;
        most = d;
        place = sym (one-mul rows);
        made = e ∙ tabulate_cong rows _ (summed rows sources targets target 0) (λ i l. rw (zero-mul, zero-add, zero-add));
      }

  -- one more square in a row
  one_more_lem : (column : List Float) (axis at i : ℕ) → Summing column axis at → i < rows →
      plus (get_or column i nan) (apart (get_or sources (at + i) nan) (get_or targets (at + target) nan)) ≡ added (axis + 1 - 1) (square_on i)
  unfolding added
  one_more_lem column axis at i h b =
      let next : axis + 1 - 1 ≡ suc (axis - 1) = omega (arith, h.some) in
      let here : axis ≡ suc (axis - 1) = omega (arith, h.some) in
      let sum : get_or column i nan ≡ added (axis - 1) (square_on i) =
      rw h.made (get_d_tabulate rows (summed rows sources targets target (axis - 1)) i nan b) in
      let square : apart (get_or sources (at + i) nan) (get_or targets (at + target) nan) ≡ square_on i (suc (axis - 1)) =
      rw h.place (ap (square_on i) here) in
      ap (λ (x : Float). plus x (apart (get_or sources (at + i) nan) (get_or targets (at + target) nan))) sum
      ∙ ap (plus (added (axis - 1) (square_on i))) square ∙ ap (λ (k : ℕ). added k (square_on i)) (sym next)

  pub summing_more : (column after : List Float) (axis at : ℕ) → Summing column axis at → axis < D →
      after ≡ tabulate rows (λ i. plus (get_or column i nan) (apart (get_or sources (at + i) nan) (get_or targets (at + target) nan))) →
      Summing after (axis + 1) (at + rows)
  summing_more column after axis at h l e =
      record {
        some = omega arith;
        most = omega arith;
        place = rw h.place (sym (next_column axis rows));
        made = e ∙ tabulate_cong rows _ (summed rows sources targets target (axis + 1 - 1)) (λ i b. one_more_lem column axis at i h b);
      }

  pub summing_done : (column after : List Float) (axis at : ℕ) → Summing column axis at → D ≤ axis →
      after ≡ tabulate rows (λ i. root (get_or column i nan)) → after ≡ tabulate rows (λ i. between D rows sources targets i target)
  summing_done column after axis at h l e =
      let all : axis ≡ D = omega (arith, h.most) in
      e ∙ tabulate_cong rows _ (λ i. between D rows sources targets i target)
      (λ i b. ap root (rw h.made (get_d_tabulate rows (summed rows sources targets target (axis - 1)) i nan b ∙ rw all)))
