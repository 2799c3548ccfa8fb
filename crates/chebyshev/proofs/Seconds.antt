-- Second derivatives: a column from those before it, what the call's number says, and what the call then leaves. Assumes nothing.
use mathlib.Core.Path.{◌≡◌, refl, sym, ap, ◌∙◌}
use mathlib.Core.Bool.{Bool, true, false, ◌&&◌}
use mathlib.Core.List.{List}
use Prim.Native.Nat.{ℕ, suc, ◌+◌, ◌-◌, ◌*◌, ◌<◌, ◌≤◌}
use lib.Dec.{leb, eqb}
use lib.Ieee.{Float, nan}
use lib.ListN.{length, get_or}
use borrow.Author.Tests.{eqb-true, le-leb, eq-eqb, ne_eqb}
use Rattle.common.specs.Lists.{stretch}
use Rattle.common.specs.Matrices.{cell}
use Rattle.common.specs.Refusals.{unless, is_order, wrong_length}
use Rattle.common.proofs.Cases.{by_bool, inside, equal_and}
use Rattle.common.proofs.Limits.{left_done, call_refused, call_done, passed, order_passed}
use Rattle.polynomial_columns.specs.Recurrence.{T, T', T''}
use Rattle.chebyshev.specs.Polynomials.{at_points, polynomials_number}
use Rattle.chebyshev.specs.Second.{Memory, second_number, second_call}
use Rattle.polynomial_columns.specs.Working.{column_T''}
use Rattle.chebyshev.proofs.Calls.{Lengths, polynomials_accepted}
use Rattle.chebyshev.proofs.Columns.{back_one, back_two, column_filled_below}

-- COLUMN BY COLUMN

module _ (rows : ℕ) (x : List Float) where
  abbrev entry_T' : ℕ → ℕ → Float
  entry_T' i j = T' j (get_or x i nan)

  abbrev entry_T'' : ℕ → ℕ → Float
  entry_T'' i j = T'' j (get_or x i nan)

  pub bends_filled : (order j : ℕ) → j < order → (l now l' now' : List Float) → now ≡ stretch 0 (j * rows) (cell rows entry_T') l →
      length l' ≡ order * rows → now' ≡ stretch 0 (j * rows) (cell rows entry_T'') l' →
      stretch (j * rows) rows (column_T'' j rows x now now' (j * rows)) now' ≡ stretch 0 ((j + 1) * rows) (cell rows entry_T'') l'
  unfolding T''
  bends_filled order j below l now l' now' made long made' =
      column_filled_below rows entry_T'' order j below l' now' long _ _ _ (λ i. refl) (λ i. refl)
      (λ k i q h. let slope : get_or now (j * rows - rows + i) nan ≡ entry_T' i (suc k) = rw made
      (back_one rows entry_T' l (suc k) i (j * rows) h (rw q)) in
      let one : get_or now' (j * rows - rows + i) nan ≡ entry_T'' i (suc k) = rw made'
      (back_one rows entry_T'' l' (suc k) i (j * rows) h (rw q)) in
      let two : get_or now' (j * rows - rows - rows + i) nan ≡ entry_T'' i k = rw made'
      (back_two rows entry_T'' l' k i (j * rows) h (rw q)) in
      rw (slope, one, two)) made'

-- THE NUMBER

-- a length that is wrong is wrong with one more
missing : (a b c d : Bool) → (unless (a && (b && c)) 7 0 ≡ 0 → ⊥) →
    unless (a && (b && c)) 7 0 ≡ unless (a && (b && (c && d))) 7 0
missing true true true d h = absurd (h refl)
missing true true false d h = refl
missing true false c d h = refl
missing false b c d h = refl

module _ (p P n v d s : ℕ) where
  pub second_first : (polynomials_number p P true n v d ≡ 0 → ⊥) → polynomials_number p P true n v d ≡ second_number p P n v d s
  unfolding polynomials_number second_number
  second_first =
      by_bool (is_order p)
      (λ e. rw e (by_bool (leb P 4096)
      (λ e'. rw e' (missing (eqb n P) (eqb v (p * P)) (eqb d (p * P)) (eqb s (p * P)))) (λ e'. rw e' λ _. refl)))
      (λ e. rw e λ _. refl)

  second_past : polynomials_number p P true n v d ≡ 0 → second_number p P n v d s ≡ unless (eqb s v) wrong_length 0
  unfolding polynomials_number second_number
  second_past z =
      let o = order_passed p _ z in
      let few = passed (leb P 4096) 2 _ o.2 in
      let k = polynomials_accepted p P true n v d z in
      rw (
        inside 1 16 p o.0 o.1,
        few.0,
        eq-eqb n P k.points,
        eq-eqb v (p * P) k.values,
        eq-eqb d (p * P) k.slopes,
        k.values,
      )

  pub second_short : polynomials_number p P true n v d ≡ 0 → (s ≡ v → ⊥) → 7 ≡ second_number p P n v d s
  second_short z h = sym (second_past z ∙ rw (ne_eqb s v h))

  pub second_none : polynomials_number p P true n v d ≡ 0 → s ≡ v → 0 ≡ second_number p P n v d s
  second_none z h = sym (second_past z ∙ rw (eq-eqb s v h))

  pub second_accepted : second_number p P n v d s ≡ 0 → Lengths p P true n v d × (s ≡ p * P)
  unfolding second_number
  second_accepted z =
      let few = passed (leb P 4096) 2 _ (order_passed p _ z).2 in
      let a = equal_and n P _ (passed _ 6 0 few.1).0 in
      let b = equal_and v (p * P) _ a.1 in
      let c = equal_and d (p * P) _ b.1 in
      (record { points = a.0; values = b.0; slopes = c.0 }, eqb-true _ _ c.1)

-- THE CALL

module _ (p P : ℕ) (x v d s : List Float) (r : ℕ) (e : r ≡ second_number p P (length x) (length v) (length d) (length s)) where
  pub second_refused : (r ≡ 0 → ⊥) → (r, (v, d, s)) ≡ second_call p P x (v, d, s)
  unfolding second_call
  second_refused = call_refused {A = Memory} r _ (at_points T p P x, at_points T' p P x, at_points T'' p P x) (v, d, s) e

  pub second_done : (v' d' s' : List Float) → r ≡ 0 → v' ≡ at_points T p P x → d' ≡ at_points T' p P x → s' ≡ at_points T'' p P x →
      (0, (v', d', s')) ≡ second_call p P x (v, d, s)
  unfolding second_call
  second_done v' d' s' z hv hd hs =
      call_done {A = Memory} r _ (at_points T p P x, at_points T' p P x, at_points T'' p P x) (v, d, s) e (v', d', s') z (rw (hv, hd, hs))

-- a call with the stated lengths has filled the three buffers
pub second_filled : (p P : ℕ) (x v d s v' d' s' : List Float) (r : ℕ) → 1 ≤ p → p ≤ 16 → P ≤ 4096 →
    length x ≡ P → length v ≡ p * P → length d ≡ p * P → length s ≡ p * P → (r, (v', d', s')) ≡ second_call p P x (v, d, s) →
    (v' ≡ at_points T p P x) × (d' ≡ at_points T' p P x) × (s' ≡ at_points T'' p P x)
unfolding second_call second_number
second_filled p P x v d s v' d' s' r least most few hx hv hd hs e =
    let none : second_number p P (length x) (length v) (length d) (length s) ≡ 0 = rw (
      inside 1 16 p least most,
      le-leb P 4096 few,
      eq-eqb (length x) P hx,
      eq-eqb (length v) (p * P) hv,
      eq-eqb (length d) (p * P) hd,
      eq-eqb (length s) (p * P) hs,
    ) in
    let all : ◌≡◌ {A = Memory} (v', d', s') (at_points T p P x, at_points T' p P x, at_points T'' p P x) =
    ap (λ (t : ℕ × Memory). t.1) e ∙ left_done _ _ _ none in
    (ap (λ (m : Memory). m.0) all, ap (λ (m : Memory). m.1) all, ap (λ (m : Memory). m.2) all)
