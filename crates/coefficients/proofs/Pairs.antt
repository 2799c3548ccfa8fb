-- The two calls are the one that they replace, as specs/Pair.antt states it: by their numbers, and by what they leave. Assumes nothing.
use mathlib.Core.Path.{◌≡◌, refl, sym, ap, ◌∙◌}
use mathlib.Core.Bool.{Bool, true, false, ◌&&◌, true≢false, and-eq-true_iff}
use mathlib.Core.List.{List}
use Prim.Native.Nat.{ℕ, zero, suc, ◌*◌, ◌/◌, ◌%◌, ◌^◌, ◌<◌, ◌≤◌}
use native.Mathlib.Nat.{div-lt_iff_lt-mul}
use native.Mathlib.Omega.{arith}
use lib.Dec.{leb, eqb}
use lib.Ieee.{Float, nan}
use lib.ListN.{length}
use borrow.Author.Tests.{leb-true}
use Rattle.common.specs.Digits.{digit}
use Rattle.common.specs.Matrices.{matrix, column_major}
use Rattle.common.specs.Refusals.{no_dimension, no_order, no_count, wrong_length, no_cell, not_finite, out_of_cell, lower, unless}
use Rattle.common.specs.Refusals.{is_dimension, is_order, is_cell, most_points, Shape}
use Rattle.common.proofs.Cases.{by_eq}
use Rattle.common.proofs.Limits.{left_done, left_refused, call_done, passed, shape_passed}
use Rattle.common.proofs.Matrices.{some_rows, column_length, column_entry, column_cong}
use Rattle.coordinates.specs.Coordinates.{all_finite, coordinate, all_in_cell, points_number}
use Rattle.coordinates.specs.Scaling.{scaling_fits, scaling_number, scale_call}
use Rattle.coordinates.proofs.Scalings.{scaling_taken}
use Rattle.coordinates.proofs.Cells.{scaled_finite}
use Rattle.axes.specs.Axes.{S, S', on_axes}
use Rattle.coefficients.specs.Coefficients.{products, factor, value, gradient, with_gradients, takes_side, lengths, lengths_fit}
use Rattle.coefficients.specs.Coefficients.{Memory, leaves, coefficients_number, coefficients_call}
use Rattle.coefficients.specs.Before as old
use Rattle.coefficients.specs.Pair.{wanted_of, scaled, found, LowestOfTwo, LowestAskedFirst, InTurn, SameValues}
use Rattle.coefficients.specs.declared.wanted.Wanted.{Wanted}
use Rattle.coefficients.specs.declared.wanted.Wanted.TheVariants.{Values, Gradients}
use Rattle.products.proofs.Products.{others_cong}
use Rattle.coefficients.proofs.Calls.{number_taken}

-- THE NUMBERS, by the tests: a dimension, b order, c count, l and m the lengths of either call, s side, q coordinates and e places of the
-- scaling; s' and f side and coordinates of the second call, which pass where those of the first do

abbrev of_scaling : (a c l s q e : Bool) → ℕ
of_scaling a c l s q e =
    unless a no_dimension (unless c no_count (unless l wrong_length (unless s no_cell (unless q not_finite (unless e out_of_cell 0)))))

abbrev of_finding : (a b c m s f : Bool) → ℕ
of_finding a b c m s f =
    unless a no_dimension (unless b no_order (unless c no_count (unless m wrong_length (unless s no_cell (unless f not_finite 0)))))

abbrev of_both : (a b c k s q e : Bool) → ℕ
of_both a b c k s q e =
    unless a no_dimension (unless b no_order
    (unless c no_count (unless k wrong_length (unless s no_cell (unless q not_finite (unless e out_of_cell 0))))))

never : {A : Type 0} → false ≡ true → A
never h = absurd (true≢false (sym h))

lowest : (a b c l m s q e s' f : Bool) → (s ≡ true → s' ≡ true) → (q ≡ true → f ≡ true) →
    lower (of_scaling a c l s q e) (of_finding a b c m s' f) ≡ of_both a b c (l && m) s q e
unfolding lower
lowest false b c l m s q e s' f hs hf = refl
lowest true false false l m s q e s' f hs hf = refl
lowest true false true false m s q e s' f hs hf = refl
lowest true false true true m false q e s' f hs hf = refl
lowest true false true true m true false e s' f hs hf = refl
lowest true false true true m true true false s' f hs hf = refl
lowest true false true true m true true true s' f hs hf = refl
lowest true true false l m s q e s' f hs hf = refl
lowest true true true false false s q e s' f hs hf = refl
lowest true true true false true s q e false f hs hf = refl
lowest true true true false true s q e true false hs hf = refl
lowest true true true false true s q e true true hs hf = refl
lowest true true true true false false q e s' f hs hf = refl
lowest true true true true false true false e s' f hs hf = refl
lowest true true true true false true true false s' f hs hf = refl
lowest true true true true false true true true s' f hs hf = refl
lowest true true true true true false q e false f hs hf = refl
lowest true true true true true false q e true false hs hf = refl
lowest true true true true true false q e true true hs hf = refl
lowest true true true true true true q e false f hs hf = never (hs refl)
lowest true true true true true true false e true false hs hf = refl
lowest true true true true true true false e true true hs hf = refl
lowest true true true true true true true e true false hs hf = never (hf refl)
lowest true true true true true true true false true true hs hf = refl
lowest true true true true true true true true true true hs hf = refl

-- a side that is taken is taken by either
side_taken : (with : Bool) (side : Float) → is_cell side ≡ true → takes_side (wanted_of with side) ≡ true
side_taken true side h = h
side_taken false side h = refl

wanted_with : (with : Bool) (side : Float) → with_gradients (wanted_of with side) ≡ with
wanted_with true side = refl
wanted_with false side = refl

-- the lengths of the one call are those of the two
lengths_parted : (x c r : Bool) → (x && (c && r)) ≡ ((c && x) && (x && r))
lengths_parted true true r = refl
lengths_parted true false r = refl
lengths_parted false true r = refl
lengths_parted false false r = refl

module _ (D p P : ℕ) (side : Float) (with : Bool) (centre t x v g f d : List Float) where
  abbrev first : ℕ × List Float
  first = scaled D p P side with centre t x v g f d

  -- scaling keeps the length
  scaled_length : length first.1 ≡ length x
  unfolding scale_call
  scaled_length =
      let made = column_major P D (coordinate P side centre x) in
      by_eq (scaling_number D P side centre x) 0
      (λ z _. rw (left_done _ made x z)
      (column_length P (coordinate P side centre x) D ∙ sym (scaling_taken D P side centre x z).long))
      (λ n _. rw (left_refused _ made x n))

  -- the second call at coordinates that are as many as the points, and finite where those are
  module _ (y : List Float) (long : length y ≡ length x) (still : all_finite x ≡ true → all_finite y ≡ true) where
    fit_same : old.lengths_fit D p P with centre t (x, v, g, f, d)
        ≡ (scaling_fits D P centre x && lengths_fit D p P (with_gradients (wanted_of with side)) (lengths t y (v, g, f, d)))
    unfolding old.lengths_fit scaling_fits lengths_fit
    fit_same = rw (wanted_with with side, long) (lengths_parted (eqb (length x) (D * P)) (eqb (length centre) D) _)

    lowest_at : lower first.0 (coefficients_call D p P (wanted_of with side) t y (v, g, f, d)).0
        ≡ (old.coefficients_call D p P side with centre t (x, v, g, f, d)).0
    unfolding scaling_number points_number scale_call coefficients_number coefficients_call old.coefficients_number old.coefficients_call
    lowest_at =
        let all = all_finite x && all_finite centre in
        let places = all_in_cell D P (coordinate P side centre x) in
        lowest (is_dimension D) (is_order p) (leb P most_points) (scaling_fits D P centre x)
        (lengths_fit D p P (with_gradients (wanted_of with side)) (lengths t y (v, g, f, d))) (is_cell side) all places
        (takes_side (wanted_of with side)) (all_finite y) (side_taken with side)
        (λ h. still ((and-eq-true_iff (all_finite x) (all_finite centre)).0 h).0)
        ∙ ap (λ (k : Bool). of_both (is_dimension D) (is_order p) (leb P most_points) k (is_cell side) all places) (sym fit_same)

  pub lowest_of_two : LowestOfTwo D p P side with centre t x v g f d
  lowest_of_two = lowest_at first.1 scaled_length (scaled_finite D P side centre x)

  pub lowest_asked_first : LowestAskedFirst D p P side with centre t x v g f d
  lowest_asked_first = lowest_at x refl (λ h. h)

-- WHAT IS LEFT depends on the coordinates of the points on the axes alone

products_cong : (n : ℕ) (f h : ℕ → Float) → ((a : ℕ) → a < n → f a ≡ h a) → products n f ≡ products n h
unfolding products
products_cong zero f h same = refl
products_cong (suc n) f h same = rw (products_cong n f h (λ a l. same a (omega arith)), same n (omega arith))

module _ (D p P : ℕ) (t : List Float) (x y : (i a : ℕ) → Float) (some : 1 ≤ p)
    (same : (i a : ℕ) → i < P → a < D → x i a ≡ y i a) where
  value_cong : column_major P (p ^ D) (value D p t x) ≡ column_major P (p ^ D) (value D p t y)
  unfolding value
  value_cong =
      column_cong P (value D p t x) (p ^ D) (value D p t y)
      (λ i k b m. products_cong D (factor D p t x i k) (factor D p t y i k) (λ a l. ap (S p t (digit p D a k)) (same i a b l)))

  gradient_cong : (side : Float) → column_major P (D * p ^ D) (gradient D p t x side) ≡ column_major P (D * p ^ D) (gradient D p t y side)
  unfolding gradient
  gradient_cong side =
      column_cong P (gradient D p t x side) (D * p ^ D) (gradient D p t y side)
      (λ i c b m. let axis : c / p ^ D < D = (div-lt_iff_lt-mul (some_rows D (p ^ D) c m)).1 m in
      others_cong (c / p ^ D) _ _ D _ _ (ap (S' p side t (digit p D (c / p ^ D) (c % p ^ D))) (same i (c / p ^ D) b axis))
      (λ a l n. ap (S p t (digit p D a (c % p ^ D))) (same i a b l)))

  axes_cong : (f : ℕ → Float → Float) → column_major P (D * p) (on_axes f p x) ≡ column_major P (D * p) (on_axes f p y)
  axes_cong f =
      column_cong P (on_axes f p x) (D * p) (on_axes f p y)
      (λ i c b m. ap (f (c % p)) (same i (c / p) b ((div-lt_iff_lt-mul some).1 m)))

  leaves_cong : (wanted : Wanted) → leaves D p P wanted t x ≡ leaves D p P wanted t y
  unfolding leaves
  leaves_cong Values = rw (value_cong, axes_cong (S p t))
  leaves_cong (Gradients side) = rw (value_cong, gradient_cong side, axes_cong (S p t), axes_cong (S' p side t))

-- what the one call leaves, in terms of what is wanted
module _ (D p P : ℕ) (t : List Float) (x : (i a : ℕ) → Float) (side : Float) where
  before_leaves : (with : Bool) →
      let w = leaves D p P (wanted_of with side) t x in
      old.leaves D p P side with t x ≡ (column_major P D x, w.0, w.1, w.2, w.3)
  unfolding leaves old.leaves
  before_leaves true = refl
  before_leaves false = refl

none_lower : (m n : ℕ) → m ≡ 0 → n ≡ 0 → lower m n ≡ 0
unfolding lower
none_lower m n e e' = rw (e, e')

module _ (D p P : ℕ) (side : Float) (with : Bool) (centre t x v g f d : List Float) where
  abbrev made : List Float
  made = column_major P D (coordinate P side centre x)

  abbrev among : List Float → Memory → old.Memory
  among points m = (points, m.0, m.1, m.2, m.3)

  pub in_turn : InTurn D p P side with centre t x v g f d
  unfolding scale_call coefficients_call old.coefficients_call
  in_turn z z' =
      let number = sym (lowest_of_two D p P side with centre t x v g f d) ∙ none_lower _ _ z z' in
      let taken = number_taken D p P (wanted_of with side) (scaled D p P side with centre t x v g f d).1 _ z' in
      let points : (scaled D p P side with centre t x v g f d).1 ≡ made = left_done _ made x z in
      let here : (i a : ℕ) → i < P → a < D → matrix P (scaled D p P side with centre t x v g f d).1 i a ≡ coordinate P side centre x i a =
      λ i a l m. rw points (column_entry P (coordinate P side centre x) D i a nan l m) in
      let wanted = leaves D p P (wanted_of with side) t (coordinate P side centre x) in
      let rest : (found D p P side with centre t x v g f d).1 ≡ wanted =
      left_done _ (leaves D p P (wanted_of with side) t (matrix P (scaled D p P side with centre t x v g f d).1)) (v, g, f, d) z'
      ∙ leaves_cong D p P t _ _ taken.0.order_least here (wanted_of with side) in
      sym (call_done _ _ (old.leaves D p P side with t (coordinate P side centre x)) (x, v, g, f, d) refl _ number refl)
      ∙ ap (λ (m : old.Memory). (0, m)) (before_leaves D p P t (coordinate P side centre x) side with
      ∙ ap (λ (l : List Float). among l wanted) (sym points)
      ∙ ap (among (scaled D p P side with centre t x v g f d).1) (sym rest))

-- the one call is not refused: the shape, the count and the lengths are right
pub before_taken : (D p P : ℕ) (side : Float) (centre points : List Float) (fit : Bool) →
    old.coefficients_number D p P side centre points fit ≡ 0 → Shape D p × (P ≤ most_points) × (fit ≡ true)
unfolding old.coefficients_number
before_taken D p P side centre points fit z =
    let s = shape_passed D p _ z in
    let few = passed (leb P most_points) 2 _ s.1 in
    (s.0, leb-true P most_points few.0, (passed fit 6 _ few.1).0)

-- VALUES WITH AND WITHOUT GRADIENTS

pub same_values : SameValues
unfolding coefficients_call leaves
same_values D p P side t x v f v' g f' d g₀ d₀ z z' =
    ap (λ (m : Memory). m.0) (left_done _ (leaves D p P Values t (matrix P x)) (v, g₀, f, d₀) z)
    ∙ sym (ap (λ (m : Memory). m.0) (left_done _ (leaves D p P (Gradients side) t (matrix P x)) (v', g, f', d) z'))
