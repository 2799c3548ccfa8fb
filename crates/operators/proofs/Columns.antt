-- A column of the operators, summed and scaled; and all columns make the matrix. Assumes nothing.
use mathlib.Core.Path.{◌≡◌, refl, sym, ap, ◌∙◌}
use mathlib.Core.List.{List}
use Prim.Native.Nat.{ℕ, suc, ◌+◌, ◌-◌, ◌*◌, ◌<◌, ◌≤◌}
use native.Mathlib.Numerals.{add-one}
use native.Mathlib.Omega.{arith}
use lib.Ieee.{Float, nan}
use lib.ListN.{length, get_or}
use borrow.Author.Tests.{lt-ltb, le-ltb}
use Rattle.common.specs.Floats.{plus, minus, times, over, one₆₄, two₆₄, half₆₄, float}
use Rattle.common.specs.Lists.{stretch}
use Rattle.common.specs.Matrices.{cell, column_major}
use Rattle.common.proofs.Fill.{stretch_inside, stretch_cong, stretch_again, fill_on}
use Rattle.common.proofs.Matrices.{next_column, column_fits, cell_at, columns_filled}
use Rattle.polynomial_columns.specs.Recurrence.{T}
use Rattle.operators.specs.Operators.{child_node, operator}
use Rattle.operators.specs.Working.{part_of}

-- A CHILD'S NODE

pub lower_node : (p c : ℕ) (nodes : List Float) → c < p → times (minus (get_or nodes c nan) one₆₄) half₆₄ ≡ child_node p nodes c
unfolding child_node
lower_node p c nodes l = rw (lt-ltb c p l)

pub upper_node : (p c : ℕ) (nodes : List Float) → p ≤ c → times (plus (get_or nodes (c - p) nan) one₆₄) half₆₄ ≡ child_node p nodes c
unfolding child_node
upper_node p c nodes l = rw (le-ltb c p l)

-- THE RECURRENCE carried along
pub T_next : (k : ℕ) (x t next : Float) → t ≡ T k x → next ≡ T (k + 1) x → minus (times (times two₆₄ x) next) t ≡ T (k + 1 + 1) x
unfolding T
T_next k x t next h h' =
    let one : k + 1 ≡ suc k = add-one k in
    let two : k + 1 + 1 ≡ suc (suc k) = omega arith in
    rw (two, h, h', one)

-- A WHOLE COLUMN, summed and scaled, after those before it

module _ (p : ℕ) (nodes poly : List Float) where
  pub column_done : (l start summed : List Float) (c : ℕ) (x factor offset : Float) → c < p + p → length l ≡ (p + p) * p →
      x ≡ child_node p nodes c →
      factor ≡ over two₆₄ (float p) → offset ≡ over one₆₄ (float p) →
      start ≡ stretch 0 (c * p) (cell p (operator p nodes poly)) l → summed ≡ stretch (c * p) p (part_of p poly x p) start →
      length start ≡ length l →
      stretch (c * p) p (λ i. minus (times (get_or summed (c * p + i) nan) factor) offset) summed
      ≡ stretch 0 ((c + 1) * p) (cell p (operator p nodes poly)) l
  unfolding operator
  column_done l start summed c x factor offset below whole hx hf ho hs hm long =
      let at = c * p in
      let fits : c * p + p ≤ length l = rw whole (column_fits c (p + p) p at below refl) in
      let room : c * p + p ≤ length start = omega arith in
      let entry : (i : ℕ) → i < p → minus (times (get_or summed (at + i) nan) factor) offset ≡ operator p nodes poly i c =
      λ i b. let inside : get_or summed (at + i) nan ≡ part_of p poly x p i = rw hm
      (stretch_inside at (part_of p poly x p) start p i nan b (omega arith)) in
      rw (inside, hf, ho, hx) in
      let column : ℕ → Float = λ i. operator p nodes poly i c in
      rw (next_column c p)
      (stretch_cong at p _ column summed entry
      ∙ ap (stretch at p column) hm ∙ stretch_again at p (part_of p poly x p) column start room ∙ ap (stretch at p column) hs
      ∙ fill_on at p (cell p (operator p nodes poly)) column l (λ i b. sym (cell_at p (operator p nodes poly) i c b)) fits)

  pub columns_all : (l : List Float) (c : ℕ) → length l ≡ (p + p) * p → c ≡ p + p →
      stretch 0 (c * p) (cell p (operator p nodes poly)) l ≡ column_major p (p + p) (operator p nodes poly)
  columns_all l c h e = rw e (columns_filled p (operator p nodes poly) (p + p) l h)
