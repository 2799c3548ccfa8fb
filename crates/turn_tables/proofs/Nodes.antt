-- A case's turn of the nodes and its return undo each other, and a step on an axis moves the image by a fixed weight. Assumes nothing.
use Rattle.std.proofs.Common.{◌≡◌, ℕ, ◌+◌, ◌-◌, ◌%◌, ◌^◌, ◌<◌, ◌≤◌, Bool, true, false, sym, refl, ap, ◌∙◌, mod-lt, mod-eq_of_lt, arith, lt-ltb}
use native.Mathlib.Nat.{add-mod_right}
use Rattle.common.specs.Digits.{Below, digit}
use Rattle.common.specs.Factorials.{factorial}
use Rattle.turn_tables.specs.Turned.{reversed, negative, axis_of, place_of, turned_index, turned, returned_index, returned}
use Rattle.turn_tables.specs.Working.{step_of}
use Rattle.common.proofs.Cases.{by_bool}
use Rattle.common.proofs.Digits.{digit_from_digits, digit_below, from_digits_below, from_digits_cong, from_digits_digits, OneMore}
use Rattle.common.proofs.Digits.{from_digits_more, digit_more}
use Rattle.common.proofs.Factorials.{factorial_pos}
use Rattle.vectors.proofs.Orders.{axis_below, place_below, axis_place, place_axis}

-- INDICES

pub reversed_below : (p : ℕ) (t : Bool) (i : ℕ) → i < p → reversed p t i < p
unfolding reversed
reversed_below p true i l = omega arith
reversed_below p false i l = l

reversed_twice : (p : ℕ) (t : Bool) (i : ℕ) → i < p → reversed p t (reversed p t i) ≡ i
unfolding reversed
reversed_twice p true i l = omega arith
reversed_twice p false i l = refl

-- NODES

module _ (D p k : ℕ) (o : 0 < p) where
  order_of_below : k % factorial D < factorial D
  order_of_below = mod-lt k (factorial_pos D)

  pub axis_of_below : (m : ℕ) → m < D → axis_of D k m < D
  unfolding axis_of
  axis_of_below m l = axis_below D (k % factorial D) m order_of_below l

  pub place_of_axis_of : (m : ℕ) → m < D → place_of D k (axis_of D k m) ≡ m
  unfolding axis_of place_of
  place_of_axis_of m l = place_axis D (k % factorial D) m order_of_below l

  place_of_below : (a : ℕ) → a < D → place_of D k a < D
  unfolding place_of
  place_of_below a l = place_below D (k % factorial D) a order_of_below l

  axis_of_place_of : (a : ℕ) → a < D → axis_of D k (place_of D k a) ≡ a
  unfolding axis_of place_of
  axis_of_place_of a l = axis_place D (k % factorial D) a order_of_below l

  pub turned_index_below : (n : ℕ) → Below p D (turned_index D p k n)
  unfolding turned_index
  turned_index_below n a _ = reversed_below p _ _ (digit_below p D (place_of D k a) n o)

  returned_index_below : (n : ℕ) → Below p D (returned_index D p k n)
  unfolding returned_index
  returned_index_below n m _ = reversed_below p _ _ (digit_below p D (axis_of D k m) n o)

  pub turned_below : (n : ℕ) → turned D p k n < p ^ D
  unfolding turned
  turned_below n = from_digits_below p D _ (turned_index_below n)

  pub returned_below : (n : ℕ) → returned D p k n < p ^ D
  unfolding returned
  returned_below n = from_digits_below p D _ (returned_index_below n)

  -- the index of the turned node on axis number m of the order
  pub turned_index_lem : (n m : ℕ) → m < D →
      digit p D (axis_of D k m) (turned D p k n) ≡ reversed p (negative D k (axis_of D k m)) (digit p D m n)
  unfolding turned turned_index
  turned_index_lem n m l =
      digit_from_digits p D _ (turned_index_below n) (axis_of D k m) (axis_of_below m l) ∙ rw (place_of_axis_of m l)

  returned_index_lem : (n a : ℕ) → a < D →
      digit p D (place_of D k a) (returned D p k n) ≡ reversed p (negative D k a) (digit p D a n)
  unfolding returned returned_index
  returned_index_lem n a l =
      digit_from_digits p D _ (returned_index_below n) (place_of D k a) (place_of_below a l) ∙ rw (axis_of_place_of a l)

  pub returned_turned : (n : ℕ) → n < p ^ D → returned D p k (turned D p k n) ≡ n
  unfolding returned returned_index
  returned_turned n h =
      from_digits_cong p D _ (λ m. digit p D m n)
      (λ m l. rw (turned_index_lem n m l) (reversed_twice p _ (digit p D m n) (digit_below p D m n o))) ∙
      from_digits_digits p D n o h

  pub turned_returned : (n : ℕ) → n < p ^ D → turned D p k (returned D p k n) ≡ n
  unfolding turned turned_index
  turned_returned n h =
      from_digits_cong p D _ (λ a. digit p D a n)
      (λ a l. rw (returned_index_lem n a l) (reversed_twice p _ (digit p D a n) (digit_below p D a n o))) ∙
      from_digits_digits p D n o h

  -- ONE STEP ON AN AXIS

  -- where a is not the axis that m goes to, m is not the place of a
  place_other : (a m : ℕ) → a < D → (a ≡ axis_of D k m → ⊥) → place_of D k a ≡ m → ⊥
  place_other a m l d e = d (sym (axis_of_place_of a l) ∙ ap (axis_of D k) e)

  module _ (m n : ℕ) (l : m < D) (h : n < p ^ D) (c : digit p D m n + 1 < p) where
    step_digits : OneMore D m (λ a. digit p D a n) (λ a. digit p D a (n + p ^ (D - 1 - m)))
    step_digits = digit_more p D m n o l h c

    step_others : (a : ℕ) → a < D → (a ≡ axis_of D k m → ⊥) → turned_index D p k (n + p ^ (D - 1 - m)) a ≡ turned_index D p k n a
    unfolding turned_index
    step_others a b d = ap (reversed p (negative D k a)) (step_digits.others (place_of D k a) (place_of_below a b) (place_other a m b d))

    turned_up : negative D k (axis_of D k m) ≡ false →
        turned D p k (n + p ^ (D - 1 - m)) ≡ turned D p k n + p ^ (D - 1 - axis_of D k m)
    unfolding turned turned_index reversed
    turned_up e =
        from_digits_more p D (axis_of D k m) (turned_index D p k n) (turned_index D p k (n + p ^ (D - 1 - m))) (axis_of_below m l)
        (record { at = rw (e, place_of_axis_of m l) step_digits.at; others = step_others })

    turned_down : negative D k (axis_of D k m) ≡ true →
        turned D p k n ≡ turned D p k (n + p ^ (D - 1 - m)) + p ^ (D - 1 - axis_of D k m)
    unfolding turned turned_index reversed
    turned_down e =
        from_digits_more p D (axis_of D k m) (turned_index D p k (n + p ^ (D - 1 - m))) (turned_index D p k n) (axis_of_below m l)
        (record {
          at = rw (e, place_of_axis_of m l, step_digits.at) (omega arith);
          others = λ a b d. sym (step_others a b d);
        })

  -- the image after a step on axis number e from the last
  pub turned_step : (e n : ℕ) → e < D → p ^ D ≤ 4096 → n < p ^ D → digit p D (D - 1 - e) n + 1 < p →
      (turned D p k n + step_of D p k e) % 2 ^ 64 ≡ turned D p k (n + p ^ e)
  unfolding step_of
  turned_step e n l few h c =
      let m = D - 1 - e in
      let back : D - 1 - m ≡ e = omega arith in
      let before = turned_below n in
      let after = turned_below (n + p ^ e) in
      rw (lt-ltb e D l)
      (by_bool (negative D k (axis_of D k m))
      (λ q. let down : turned D p k n ≡ turned D p k (n + p ^ e) + p ^ (D - 1 - axis_of D k m) = rw back at
      (turned_down m n (omega arith) h c q) in
      let sum : turned D p k n + (2 ^ 64 - p ^ (D - 1 - axis_of D k m)) ≡ turned D p k (n + p ^ e) + 2 ^ 64 = omega arith in
      rw (q, sum, add-mod_right) (mod-eq_of_lt (omega arith)))
      (λ q. let up : turned D p k (n + p ^ e) ≡ turned D p k n + p ^ (D - 1 - axis_of D k m) = rw back at
      (turned_up m n (omega arith) h c q) in
      rw (q, ← up) (mod-eq_of_lt (omega arith))))
