-- The room to work in: three stretches side by side, each read again; and S, S', S'' of an axis from what stands there. Assumes nothing.
use mathlib.Core.Path.{◌≡◌, sym, ap, ◌∙◌}
use mathlib.Core.List.{List, ◌++◌, append_assoc}
use Prim.Native.Nat.{ℕ, ◌+◌, ◌-◌, ◌*◌, ◌%◌, ◌<◌, ◌≤◌}
use native.Mathlib.Nat.{mod-lt}
use native.Mathlib.Omega.{arith}
use lib.Ieee.{Float, nan}
use lib.ListN.{length, get_or, take, drop, length-append, get_or-append}
use lib.Seq.{get_or-append-add, length-take-le, take_all, take_at, drop_at}
use borrow.Author.Tests.{eq-eqb, le-leb}
use Rattle.std.specs.Prelude.{Result, IsOk}
use Rattle.common.specs.Floats.{inner}
use Rattle.common.specs.Lists.{tabulate, stretch}
use Rattle.common.specs.Matrices.{cell, matrix, column_major}
use Rattle.common.specs.Numbers.{told_number}
use Rattle.common.specs.declared.refusals.Refusal.{Refusal}
use Rattle.common.proofs.Cases.{inside}
use Rattle.common.proofs.Fill.{fill_on, fill_all, listed, stretch_cong, stretch_again, length_tabulate}
use Rattle.common.proofs.Matrices.{column_length, column_entry, some_rows}
use Rattle.common.proofs.Sums.{sums_cong}
use Rattle.polynomial_columns.specs.Recurrence.{T, T', T''}
use Rattle.chebyshev.specs.Polynomials.{at_points}
use Rattle.chebyshev.specs.Second.{Memory, second_number, second_call}
use Rattle.axes.specs.Axes.{factor_of, slope_of, S, S', sums_of, made_at}
use Rattle.axes.proofs.Accepted.{taken}
use Rattle.bends.specs.Bends.{bend_of, S'', room_of}
use Rattle.bends.specs.Working.{columns_at, between}

-- THREE LISTS of one length, one after the other

behind : (a b : List Float) (n i : ℕ) → length a ≡ n → get_or (a ++ b) (n + i) nan ≡ get_or b i nan
behind a b n i e = ap (λ (k : ℕ). get_or (a ++ b) (k + i) nan) (sym e) ∙ get_or-append-add a b i nan

module _ (n : ℕ) (a b c : List Float) (long-a : length a ≡ n) (long-b : length b ≡ n) (long-c : length c ≡ n) where
  abbrev all : ℕ → Float
  all k = get_or (a ++ (b ++ c)) k nan

  in_first : (i : ℕ) → i < n → get_or a i nan ≡ all i
  in_first i h = sym (get_or-append a (b ++ c) nan i (rw long-a h))

  in_second : (i : ℕ) → i < n → get_or b i nan ≡ all (n + i)
  in_second i h = sym (behind a (b ++ c) n i long-a ∙ get_or-append b c nan i (rw long-b h))

  in_third : (i : ℕ) → i < n → get_or c i nan ≡ all (n + n + i)
  in_third i h =
      let place : n + n + i ≡ n + (n + i) = omega arith in
      sym (ap all place ∙ behind a (b ++ c) n (n + i) long-a ∙ behind b c n i long-b)

  -- each is stored behind the one before it
  pub three_kept : (l one two last : List Float) → length l ≡ 3 * n → one ≡ stretch 0 n (λ i. get_or a i nan) l →
      two ≡ stretch n n (λ i. get_or b i nan) one → last ≡ stretch (n + n) n (λ i. get_or c i nan) two → last ≡ a ++ (b ++ c)
  three_kept l one two last long first second third =
      let whole : length (a ++ (b ++ c)) ≡ n + n + n =
      omega (arith, length-append a (b ++ c), length-append b c, long-a, long-b, long-c) in
      let one' : one ≡ stretch 0 n all l = first ∙ stretch_cong 0 n _ all l in_first in
      let two' : two ≡ stretch 0 (n + n) all l = second ∙ rw one' (fill_on n n all _ l in_second (omega (arith, long))) in
      let last' : last ≡ stretch 0 (n + n + n) all l = third ∙ rw two' (fill_on (n + n) n all _ l in_third (omega (arith, long))) in
      last' ∙ fill_all (n + n + n) all l (omega (arith, long)) ∙ listed (a ++ (b ++ c)) (n + n + n) nan whole

  -- and each is read again
  pub first_kept : take (n - 0) (drop 0 (a ++ (b ++ c))) ≡ a
  first_kept = let size : n - 0 ≡ n = omega arith in rw size (take_at a (b ++ c) n long-a)

  pub second_kept : take (n + n - n) (drop n (a ++ (b ++ c))) ≡ b
  second_kept =
      let size : n + n - n ≡ n = omega arith in
      rw (size, drop_at a (b ++ c) n long-a) (take_at b c n long-b)

  pub third_kept : take (n + n + n - (n + n)) (drop (n + n) (a ++ (b ++ c))) ≡ c
  third_kept =
      let size : n + n + n - (n + n) ≡ n = omega arith in
      let before : length (a ++ b) ≡ n + n = omega (arith, length-append a b, long-a, long-b) in
      rw (size, ← append_assoc a b c, drop_at (a ++ b) c (n + n) before) (take_all n c (omega (arith, long-c)))

-- S, S', S'' OF AN AXIS

module _ (finish : Float → Float) (at p P : ℕ) (columns polynomials l : List Float) (fits : at + p * P ≤ length l) where
  -- in the place of the polynomials that they were summed from
  pub axis_right : (t : ℕ → Float → Float) (points before next : List Float) → columns ≡ at_points t p P points →
      before ≡ columns_at at p P t points l → next ≡ made_at finish at p P columns polynomials before →
      next ≡ columns_at at p P (λ n x. finish (inner p (λ k. t k x) (matrix p polynomials n))) points l
  axis_right t points before next c b e =
      let summed : ℕ → Float = λ k. finish (sums_of p P columns polynomials k) in
      let right : ℕ → Float = cell P (λ i n. finish (inner p (λ k. t k (get_or points i nan)) (matrix p polynomials n))) in
      e ∙ rw b (stretch_again at (p * P) _ summed l fits) ∙ stretch_cong at (p * P) summed right l
      (λ k h. ap finish (sums_cong p _ _ (λ j m. rw
      (c, column_entry P (λ i n. t n (get_or points i nan)) p (k % P) j nan (mod-lt k (some_rows p P k h)) m))))

-- the polynomials that stand in a stretch
kept : (at p P : ℕ) (t : ℕ → Float → Float) (points l : List Float) → at + p * P ≤ length l →
    between at (at + p * P) (columns_at at p P t points l) ≡ at_points t p P points
unfolding column_major
kept at p P t points l fits =
    let size : at + p * P - at ≡ p * P = omega arith in
    let columns = cell P (λ i j. t j (get_or points i nan)) in
    rw (size, drop_at (take at l) _ at (length-take-le at l (omega (arith, fits))))
    (take_at (tabulate (p * P) columns) _ (p * P) (length_tabulate (p * P) columns))

-- the call that finds them is not refused
pub second_taken : {A : Type 0} (p P : ℕ) (x v d s v' d' s' : List Float) (r : Result A Refusal) → 1 ≤ p → p ≤ 16 → P ≤ 4096 →
    length x ≡ P → length v ≡ p * P → length d ≡ p * P → length s ≡ p * P →
    (told_number r, (v', d', s')) ≡ second_call p P x (v, d, s) → IsOk r
unfolding second_call second_number
second_taken p P x v d s v' d' s' r least most few hx hv hd hs e =
    taken r (ap (λ (t : ℕ × Memory). t.0) e ∙ rw (
      inside 1 16 p least most,
      le-leb P 4096 few,
      eq-eqb (length x) P hx,
      eq-eqb (length v) (p * P) hv,
      eq-eqb (length d) (p * P) hd,
      eq-eqb (length s) (p * P) hs,
    ))

-- ONE AXIS: T, T' and T'' in three buffers; the same in the room; and S, S' and S'' in their places
module _ (at p P : ℕ) (side : Float) (t x f d b f₁ d₁ b₁ room : List Float) (fits-f : at + p * P ≤ length f)
    (fits-d : at + p * P ≤ length d) (fits-b : at + p * P ≤ length b) (found-f : f₁ ≡ columns_at at p P T x f)
    (found-d : d₁ ≡ columns_at at p P T' x d) (found-b : b₁ ≡ columns_at at p P T'' x b)
    (stored : room ≡ between at (at + p * P) f₁ ++ (between at (at + p * P) d₁ ++ between at (at + p * P) b₁)) where
  pub room_right : room ≡ room_of p P (λ i. get_or x i nan)
  unfolding room_of
  room_right = stored ∙ rw (found-f, found-d, found-b, kept at p P T x f fits-f, kept at p P T' x d fits-d, kept at p P T'' x b fits-b)

  long : (g : ℕ → Float → Float) → length (at_points g p P x) ≡ p * P
  long g = column_length P _ p

  pub factors_right : (next : List Float) → next ≡ made_at (factor_of p) at p P (between 0 (p * P) room) t f₁ →
      next ≡ columns_at at p P (S p t) x f
  unfolding S room_of
  factors_right next e =
      axis_right (factor_of p) at p P (between 0 (p * P) room) t f fits-f T x f₁ next
      (rw room_right (first_kept (p * P) (at_points T p P x) (at_points T' p P x) (at_points T'' p P x) (long T) (long T') (long T'')))
      found-f e

  pub slopes_right : (next : List Float) →
      next ≡ made_at (slope_of p side) at p P (between (p * P) (p * P + p * P) room) t d₁ → next ≡ columns_at at p P (S' p side t) x d
  unfolding S' room_of
  slopes_right next e =
      axis_right (slope_of p side) at p P (between (p * P) (p * P + p * P) room) t d fits-d T' x d₁ next
      (rw room_right (second_kept (p * P) (at_points T p P x) (at_points T' p P x) (at_points T'' p P x) (long T) (long T') (long T'')))
      found-d e

  pub bends_right : (next : List Float) →
      next ≡ made_at (bend_of p side) at p P (between (p * P + p * P) (p * P + p * P + p * P) room) t b₁ →
      next ≡ columns_at at p P (S'' p side t) x b
  unfolding S'' room_of
  bends_right next e =
      axis_right (bend_of p side) at p P (between (p * P + p * P) (p * P + p * P + p * P) room) t b fits-b T'' x b₁ next
      (rw room_right (third_kept (p * P) (at_points T p P x) (at_points T' p P x) (at_points T'' p P x) (long T) (long T') (long T'')))
      found-b e
