-- The indices of one node's image and origin, as the program finds them. Assumes nothing.
use mathlib.Core.Path.{◌≡◌, refl}
use mathlib.Core.Bool.{cond}
use Prim.Native.Nat.{ℕ, zero, suc, ◌-◌, ◌/◌, ◌%◌, ◌<◌, ◌≤◌}
use native.Mathlib.Omega.{arith}
use lib.Dec.{ltb, eqb}
use borrow.Author.Tests.{eqb-true, lt-ltb, le-ltb, eq-eqb, ne_eqb}
use Rattle.common.specs.Factorials.{factorial}
use Rattle.common.specs.Tests.{each}
use Rattle.common.specs.Threes.{three, Small}
use Rattle.common.specs.declared.Three.{Three}
use Rattle.common.proofs.Cases.{by_bool}
use Rattle.common.proofs.Tests.{each_at}
use Rattle.vectors.specs.Order.{unskip, axis, place}
use Rattle.vectors.specs.declared.Turn.{Turn}
use Rattle.turn_tables.proofs.Nodes.{reversed_below}
use Rattle.turn_nodes.specs.Working.{negative_on, image_index, reversed_all, origin_index, place_of_other, Followable}

-- THE PLACE of an axis, as the program finds it: one test over all orders

place_by : (D k a : ℕ) → ℕ
place_by D k a =
    cond (ltb D 3) (cond (eqb a k) 0 1)
    (cond (eqb a (k / 2)) 0 (cond (ltb a (k / 2)) (place_of_other a (k % 2)) (place_of_other (a - 1) (k % 2))))

place_by_lem : (D k a : ℕ) → D ≤ 3 → k < factorial D → a < D → place_by D k a ≡ place D k a
unfolding each factorial place unskip place_by
place_by_lem D k a hD hk ha =
    eqb-true _ _
    (each_at D (λ b. eqb (place_by D k b) (place D k b))
    (each_at (factorial D) (λ j. each D (λ b. eqb (place_by D j b) (place D j b)))
    (each_at 4 (λ n. each (factorial n) (λ j. each n (λ b. eqb (place_by n j b) (place n j b)))) refl D (omega arith)) k hk) a ha)

module _ (D k a : ℕ) (hD : D ≤ 3) (hk : k < factorial D) (ha : a < D) where
  pub place_same : D < 3 → a ≡ k → 0 ≡ place D k a
  unfolding place_by
  place_same l e = rw (lt-ltb D 3 l, eq-eqb a k e) at (place_by_lem D k a hD hk ha)

  pub place_other : D < 3 → (a ≡ k → ⊥) → 1 ≡ place D k a
  unfolding place_by
  place_other l d = rw (lt-ltb D 3 l, ne_eqb a k d) at (place_by_lem D k a hD hk ha)

  pub place_first : 3 ≤ D → a ≡ k / 2 → 0 ≡ place D k a
  unfolding place_by
  place_first l e = rw (le-ltb D 3 l, eq-eqb a (k / 2) e) at (place_by_lem D k a hD hk ha)

  pub place_low : 3 ≤ D → (a ≡ k / 2 → ⊥) → a < k / 2 → place_of_other a (k % 2) ≡ place D k a
  unfolding place_by
  place_low l d h = rw (le-ltb D 3 l, ne_eqb a (k / 2) d, lt-ltb a (k / 2) h) at (place_by_lem D k a hD hk ha)

  pub place_high : 3 ≤ D → (a ≡ k / 2 → ⊥) → k / 2 ≤ a → place_of_other (a - 1) (k % 2) ≡ place D k a
  unfolding place_by
  place_high l d h = rw (le-ltb D 3 l, ne_eqb a (k / 2) d, le-ltb a (k / 2) h) at (place_by_lem D k a hD hk ha)

pub negative_third : (t : Turn) (a : ℕ) → (a ≡ 0 → ⊥) → (a ≡ 1 → ⊥) → t.third ≡ negative_on t a
negative_third t zero d d' = absurd (d refl)
negative_third t (suc zero) d d' = absurd (d' refl)
negative_third t (suc (suc a)) d d' = refl

-- each index is below p, past the dimension too
module _ (D p : ℕ) (t : Turn) (n : Three) (ok : Followable D p t n) where
  image_below : (a : ℕ) → image_index D p t n a < p
  unfolding image_index
  image_below a =
      by_bool (ltb a D) (λ e. rw e (reversed_below p _ _ (ok.below (place D t.order a)))) (λ e. rw e ok.shape.order_least)

  back_below : (a : ℕ) → three (reversed_all p t n) a < p
  unfolding reversed_all
  back_below zero = reversed_below p _ _ (ok.below 0)
  back_below (suc zero) = reversed_below p _ _ (ok.below 1)
  back_below (suc (suc zero)) = reversed_below p _ _ (ok.below 2)
  back_below (suc (suc (suc a))) = ok.shape.order_least

  origin_below : (m : ℕ) → origin_index D t.order (reversed_all p t n) m < p
  unfolding origin_index
  origin_below m = by_bool (ltb m D) (λ e. rw e (back_below (axis D t.order m))) (λ e. rw e ok.shape.order_least)

  small : (f : ℕ → ℕ) (a b c : ℕ) → ((k : ℕ) → f k < p) → a ≡ f 0 → b ≡ f 1 → c ≡ f 2 → (p ≤ 16) × Small D 16 (a, b, c)
  small f a b c h e e' e'' =
      let most = ok.shape.order_most in (
        most,
        record {
          dimension_least = ok.shape.dimension_least;
          dimension_most = ok.shape.dimension_most;
          first = omega (arith, h 0, e, most);
          second = omega (arith, h 1, e', most);
          third = omega (arith, h 2, e'', most);
        },
      )

  pub image_small : (a b c : ℕ) → a ≡ image_index D p t n 0 → b ≡ image_index D p t n 1 → c ≡ image_index D p t n 2 →
      (p ≤ 16) × Small D 16 (a, b, c)
  image_small a b c = small (image_index D p t n) a b c image_below

  pub origin_small : (a b c : ℕ) → a ≡ origin_index D t.order (reversed_all p t n) 0 →
      b ≡ origin_index D t.order (reversed_all p t n) 1 → c ≡ origin_index D t.order (reversed_all p t n) 2 →
      (p ≤ 16) × Small D 16 (a, b, c)
  origin_small a b c = small (origin_index D t.order (reversed_all p t n)) a b c origin_below
