-- The product of a pair: from its sources; and from S, S' and S'' where they stand. Assumes nothing.
use mathlib.Core.Path.{◌≡◌, refl, sym, ap, ◌∙◌}
use mathlib.Core.Bool.{Bool, cond}
use mathlib.Core.List.{List}
use Prim.Native.Nat.{ℕ, zero, suc, ◌+◌, ◌-◌, ◌*◌, ◌/◌, ◌%◌, ◌^◌, ◌<◌, ◌≤◌}
use native.Mathlib.Nat.{mul_assoc, div-lt_iff_lt-mul}
use native.Mathlib.Omega.{arith}
use lib.Dec.{eqb, leb}
use lib.Ieee.{Float, nan}
use lib.ListN.{length, get_or, take, drop}
use borrow.Author.Tests.{eq-eqb, ne_eqb, leb-false}
use borrow.Rule.Slice.PartMut.{put_mid}
use Rattle.common.specs.Floats.{times}
use Rattle.common.specs.Matrices.{cell, column_major}
use Rattle.common.proofs.Cases.{by_bool}
use Rattle.common.proofs.Fill.{part_length}
use Rattle.common.proofs.Matrices.{column_cong, columns_filled, some_rows}
use Rattle.common.proofs.Steps.{Stepping, stepping_done}
use Rattle.axes.specs.Axes.{S, S', on_axes}
use Rattle.bends.specs.Bends.{S'', room_of}
use Rattle.products.specs.Products.{others, three, chain, place_of, product_of, started_of, Sources}
use Rattle.products.proofs.Blocks.{block_more}
use Rattle.products.proofs.Products.{each_three, axis_entry}
use Rattle.curvatures.specs.Curvatures.{pair_at, pair_count, besides, curvature, leaves}
use Rattle.curvatures.specs.Working.{third_axis, pair_of, curvature_of, Filled}
use Rattle.curvatures.specs.declared.pairs.Pair.{Pair}
use Rattle.curvatures.proofs.AxisPairs.{pair_rises}

-- ONE AXIS twice leaves out what one axis leaves out
besides_one : (g : ℕ) (v : Float) (n : ℕ) (f : ℕ → Float) → besides g g v n f ≡ others g v n f
unfolding besides others
besides_one g v zero f = refl
besides_one g v (suc n) f = by_bool (eqb n g) (λ e. rw (e, besides_one g v n f)) (λ e. rw (e, besides_one g v n f))

pub pair_of_one : (g h : ℕ) (v w : Float) (n : ℕ) (f : ℕ → Float) → g ≡ h → others g v n f ≡ besides g h (cond (eqb g h) v w) n f
pair_of_one g h v w n f e = rw (eq-eqb g h e, ← e) (sym (besides_one g v n f))

-- TWO AXES, and the third where there is one
besides_two : (D g h : ℕ) (f s : ℕ → Float) → D ≤ 3 → g < h → h < D → s 2 ≡ f (third_axis D g h) →
    chain (D - 1) s ≡ besides g h (times (s 0) (s 1)) D f
unfolding chain besides
besides_two zero g h f s most l b e = absurd (omega arith)
besides_two (suc zero) g h f s most l b e = absurd (omega arith)
besides_two (suc (suc zero)) zero (suc zero) f s most l b e = refl
besides_two (suc (suc zero)) zero zero f s most l b e = absurd (omega arith)
besides_two (suc (suc zero)) zero (suc (suc h)) f s most l b e = absurd (omega arith)
besides_two (suc (suc zero)) (suc g) h f s most l b e = absurd (omega arith)
besides_two (suc (suc (suc zero))) zero zero f s most l b e = absurd (omega arith)
besides_two (suc (suc (suc zero))) zero (suc zero) f s most l b e = rw e
besides_two (suc (suc (suc zero))) zero (suc (suc zero)) f s most l b e = rw e
besides_two (suc (suc (suc zero))) zero (suc (suc (suc h))) f s most l b e = absurd (omega arith)
besides_two (suc (suc (suc zero))) (suc zero) zero f s most l b e = absurd (omega arith)
besides_two (suc (suc (suc zero))) (suc zero) (suc zero) f s most l b e = absurd (omega arith)
besides_two (suc (suc (suc zero))) (suc zero) (suc (suc zero)) f s most l b e = rw e
besides_two (suc (suc (suc zero))) (suc zero) (suc (suc (suc h))) f s most l b e = absurd (omega arith)
besides_two (suc (suc (suc zero))) (suc (suc g)) h f s most l b e = absurd (omega arith)
besides_two (suc (suc (suc (suc D)))) g h f s most l b e = absurd (omega arith)

pair_of_two : (D g h : ℕ) (v : Float) (f s : ℕ → Float) → D ≤ 3 → g < h → h < D → s 2 ≡ f (third_axis D g h) →
    chain (D - 1) s ≡ besides g h (cond (eqb g h) v (times (s 0) (s 1))) D f
pair_of_two D g h v f s most l b e = rw (ne_eqb g h (λ z. omega arith)) (besides_two D g h f s most l b e)

third_below : (D g h : ℕ) → D ≤ 3 → g < h → h < D → third_axis D g h < D
third_below D g h most l b =
    by_bool (leb D 2) (λ e. rw e (omega arith)) (λ e. rw e (let three : 2 < D = leb-false D 2 e in omega arith))

module _ (D p P : ℕ) (factors slopes bends : List Float) (most : D ≤ 3) (h : Filled D p P factors slopes bends) (pair : Pair) where
  -- the columns of a pair of one axis
  pub pair_one : pair.first ≡ pair.second → (columns : ℕ) →
      column_major P columns (started_of D p P pair.first bends factors) ≡ column_major P columns (pair_of D p P factors slopes bends pair)
  pair_one e columns =
      column_cong P _ columns (pair_of D p P factors slopes bends pair) (λ i k _ _. pair_of_one pair.first pair.second _ _ D _ e)

  -- and of two
  module _ (r : ℕ) (third : r ≡ third_axis D pair.first pair.second) (rises : pair.first < pair.second)
      (below : pair.second < D) where
    pub pair_sources : Sources D p P (three pair.first pair.second r) (three slopes slopes factors)
    pair_sources =
        record {
          axis = each_three pair.first pair.second r (λ n. n < D) (omega arith) below
              (rw third (third_below D pair.first pair.second most rises below));
          long = each_three slopes slopes factors (λ l. length l ≡ D * p * P) h.long_slopes h.long_slopes h.long_factors;
        }

    pub pair_two : (columns : ℕ) →
        column_major P columns (product_of D p P (three pair.first pair.second r) (three slopes slopes factors)) ≡
        column_major P columns (pair_of D p P factors slopes bends pair)
    unfolding three
    pair_two columns =
        column_cong P _ columns (pair_of D p P factors slopes bends pair)
        (λ i k _ _. pair_of_two D pair.first pair.second _ _ _ most rises below
        (ap (λ (a : ℕ). get_or factors (place_of D p P k a + i) nan) third))

-- FROM S, S' AND S'' where they stand
besides_cong : (g h : ℕ) (v w : Float) (n : ℕ) (f f' : ℕ → Float) → v ≡ w → ((a : ℕ) → a < n → f a ≡ f' a) →
    besides g h v n f ≡ besides g h w n f'
unfolding besides
besides_cong g h v w zero f f' e same = e
besides_cong g h v w (suc n) f f' e same =
    rw (besides_cong g h v w n f f' e (λ a l. same a (omega arith)), same n (omega arith))

start_cong : (t : Bool) (a b c a' b' c' : Float) → a ≡ a' → b ≡ b' → c ≡ c' → cond t a (times b c) ≡ cond t a' (times b' c')
start_cong t a b c a' b' c' x y z = rw (x, y, z)

module _ (D p P : ℕ) (side : Float) (t : List Float) (x : (i a : ℕ) → Float) (some : 1 ≤ p) (most : D ≤ 3) (f d b : List Float)
    (made-f : f ≡ column_major P (D * p) (on_axes (S p t) p x)) (made-d : d ≡ column_major P (D * p) (on_axes (S' p side t) p x))
    (made-b : b ≡ column_major P (D * p) (on_axes (S'' p side t) p x)) where
  pub curvatures_right : column_major P (pair_count D * p ^ D) (curvature_of D p P f d b) ≡
      column_major P (pair_count D * p ^ D) (curvature D p side t x)
  unfolding curvature
  curvatures_right =
      column_cong P (curvature_of D p P f d b) (pair_count D * p ^ D) (curvature D p side t x)
      (λ i c l m. let nodes : 0 < p ^ D = some_rows (pair_count D) (p ^ D) c m in
      let k = c % p ^ D in
      let pair = pair_at D (c / p ^ D) in
      let rises = pair_rises D (c / p ^ D) most ((div-lt_iff_lt-mul nodes).1 m) in
      let first-in : pair.first < D = omega (arith, rises) in
      besides_cong pair.first pair.second _ _ D _ _
      (start_cong (eqb pair.first pair.second) _ _ _ _ _ _
      (axis_entry D p P x some (S'' p side t) b made-b i k pair.first l first-in)
      (axis_entry D p P x some (S' p side t) d made-d i k pair.first l first-in)
      (axis_entry D p P x some (S' p side t) d made-d i k pair.second l rises.1))
      (λ a h. axis_entry D p P x some (S p t) f made-f i k a l h))

  -- ALL OF THE MEMORY
  pub memory_right : (c room : List Float) → c ≡ column_major P (pair_count D * p ^ D) (curvature_of D p P f d b) →
      room ≡ room_of p P (λ i. x i (D - 1)) → (c, f, d, b, room) ≡ leaves D p P side t x
  unfolding leaves
  memory_right c room hc hr = let made-c = hc ∙ curvatures_right in rw (made-c, made-f, made-d, made-b, hr)

-- PAIR AFTER PAIR: m pairs and n nodes, as the code has them
module _ (D p P : ℕ) (f d b before : List Float) (m n : ℕ) (pairs : m ≡ pair_count D) (nodes : n ≡ p ^ D)
    (long : length before ≡ pair_count D * p ^ D * P) where
  abbrev PairsDone : (now : List Float) → (q at : ℕ) → Type 0
  PairsDone now q at = Stepping 0 m (n * P) (cell P (curvature_of D p P f d b)) before now q at

  pub pairs_fit : m * (n * P) ≤ length before
  pairs_fit = rw (pairs, nodes, ← mul_assoc) (omega (arith, long))

  pub pair_lent : (now : List Float) (at : ℕ) → at + n * P ≤ length now → length (take (at + n * P - at) (drop at now)) ≡ p ^ D * P
  pair_lent now at fits = rw (← nodes) (part_length at (at + n * P) (n * P) now refl fits)

  pub pair_more : (now filled : List Float) (q at : ℕ) (pair : Pair) → pair ≡ pair_at D q → q < m → PairsDone now q at →
      filled ≡ column_major P (p ^ D) (pair_of D p P f d b pair) → PairsDone (put_mid at (at + n * P - at) now filled) (q + 1) (at + n * P)
  pair_more now filled q at pair e l h made =
      block_more m (p ^ D) P (λ r. pair_of D p P f d b (pair_at D r)) q before now filled n at nodes l (rw pairs long) h
      (made ∙ rw e)

  pub pairs_done : (now : List Float) (q at : ℕ) → PairsDone now q at → m ≤ q →
      now ≡ column_major P (pair_count D * p ^ D) (curvature_of D p P f d b)
  pairs_done now q at h l =
      let done = stepping_done 0 m (n * P) (cell P (curvature_of D p P f d b)) before now q at h l in
      (rw (pairs, nodes, ← mul_assoc) at done) ∙ columns_filled P (curvature_of D p P f d b) (pair_count D * p ^ D) before long
