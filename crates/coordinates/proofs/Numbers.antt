-- What the number of a cell and its points says, by the tests that lead to it. Assumes nothing.
use mathlib.Core.Path.{◌≡◌, refl, ap, ◌∙◌}
use mathlib.Core.Bool.{Bool, true, false, ◌&&◌, and-eq-true_iff}
use mathlib.Core.List.{List, [], ◌∷◌}
use Prim.Native.Nat.{ℕ, zero, suc, ◌<◌}
use native.Mathlib.Omega.{arith}
use lib.Ieee.{Float, nan}
use lib.Ieee.Scale.{finite}
use lib.ListN.{length, get_or}
use Rattle.std.specs.List.{list_all}
use Rattle.common.specs.Refusals.{is_cell}
use Rattle.common.specs.Tests.{each}
use Rattle.common.proofs.Limits.{passed, past}
use Rattle.common.proofs.Tests.{each_at}
use Rattle.coordinates.specs.Coordinates.{all_finite, coordinate, in_cell, all_in_cell, points_number}

-- EACH ENTRY of a list, from the front

and_assoc : (a b c : Bool) → ((a && b) && c) ≡ (a && (b && c))
and_assoc true b c = refl
and_assoc false b c = refl

each_front : (n : ℕ) (f : ℕ → Bool) → each (suc n) f ≡ (f zero && each n (λ i. f (suc i)))
unfolding each
each_front zero f = and_true (f zero)
  where
    and_true : (b : Bool) → true && b ≡ b && true
    and_true true = refl
    and_true false = refl
each_front (suc n) f = rw (each_front n f) (and_assoc (f zero) (each n (λ i. f (suc i))) (f (suc n)))

pub each_listed : {A : Type 0} (l : List A) (f : A → Bool) (d : A) → each (length l) (λ i. f (get_or l i d)) ≡ list_all f l
unfolding each
each_listed [] f d = refl
each_listed (x ∷ l) f d = each_front (length l) (λ i. f (get_or (x ∷ l) i d)) ∙ ap (λ (b : Bool). f x && b) (each_listed l f d)

-- WHERE ALL ARE FINITE, OR IN THE CELL, each is

pub finite_at : (l : List Float) → all_finite l ≡ true → (i : ℕ) → i < length l → finite (get_or l i nan) ≡ true
unfolding all_finite
finite_at l h = each_at (length l) (λ i. finite (get_or l i nan)) h

pub in_cell_at : (D P : ℕ) (x : ℕ → ℕ → Float) → all_in_cell D P x ≡ true → (i a : ℕ) → i < P → a < D → in_cell (x i a) ≡ true
unfolding all_in_cell
in_cell_at D P x h i a l m = each_at P (λ j. in_cell (x j a)) (each_at D (λ b. each P (λ j. in_cell (x j b))) h a m) i l

module _ (D P : ℕ) (side : Float) (centre points : List Float) where
  -- THE TESTS, from the first on

  pub number_cell : is_cell side ≡ false → 8 ≡ points_number D P side centre points
  unfolding points_number
  number_cell c = rw c

  module _ (c : is_cell side ≡ true) where
    pub number_points : all_finite points ≡ false → 9 ≡ points_number D P side centre points
    unfolding points_number
    number_points x = rw (c, x)

    module _ (x : all_finite points ≡ true) where
      pub number_centre : all_finite centre ≡ false → 9 ≡ points_number D P side centre points
      unfolding points_number
      number_centre y = rw (c, x, y)

      module _ (y : all_finite centre ≡ true) where
        pub number_outside : all_in_cell D P (coordinate P side centre points) ≡ false → 11 ≡ points_number D P side centre points
        unfolding points_number
        number_outside z = rw (c, x, y, z)

        pub number_none : all_in_cell D P (coordinate P side centre points) ≡ true → 0 ≡ points_number D P side centre points
        unfolding points_number
        number_none z = rw (c, x, y, z)

  -- WHAT THE NUMBER SAYS: with 0 all points are in the cell; with 11 the cell and all coordinates are right but for places

  pub taken_in_cell : points_number D P side centre points ≡ 0 → all_in_cell D P (coordinate P side centre points) ≡ true
  unfolding points_number
  taken_in_cell z =
      let cell = passed (is_cell side) 7 _ z in
      let all = passed (all_finite points && all_finite centre) 8 _ cell.1 in
      (passed (all_in_cell D P (coordinate P side centre points)) 10 0 all.1).0

  pub outside_finite : points_number D P side centre points ≡ 11 →
      (is_cell side ≡ true) × (all_finite points ≡ true) × (all_finite centre ≡ true)
  unfolding points_number
  outside_finite h =
      let one = past (is_cell side) 8 _ 11 h (λ e. omega arith) in
      let two = past (all_finite points && all_finite centre) 9 _ 11 one.1 (λ e. omega arith) in
      let both = (and-eq-true_iff (all_finite points) (all_finite centre)).0 two.0 in
      (one.0, both.0, both.1)
