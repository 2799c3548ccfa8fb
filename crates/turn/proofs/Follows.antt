-- One node, followed by its indices: its image and its origin are the entries of both tables. Assumes nothing.
use mathlib.Core.Path.{◌≡◌, refl, sym, ap, ◌∙◌}
use mathlib.Core.Bool.{true}
use mathlib.Core.Option.{none, some}
use Prim.Native.Nat.{ℕ, zero, suc, ◌+◌, ◌-◌, ◌*◌, ◌/◌, ◌%◌, ◌^◌, ◌<◌, ◌≤◌}
use native.Mathlib.Nat.{pow-zero, pow-succ', one-le-pow, div-one, div-div-eq-div-mul, div-lt_iff_lt-mul, mod-eq_of_lt}
use native.Mathlib.Omega.{arith}
use lib.Dec.{ltb}
use lib.IntN.{ℤ}
use borrow.Author.Tests.{ltb-true, lt-ltb}
use Rattle.std.specs.Prelude.{Result, Ok, Err}
use Rattle.common.specs.Numbers.{number, told, told_number}
use Rattle.common.specs.declared.refusals.Refusal.{Refusal}
use Rattle.common.specs.Digits.{from_digits, digit}
use Rattle.common.specs.Refusals.{Shape, lower, is_dimension, is_order, shape_number}
use Rattle.common.specs.Threes.{three}
use Rattle.common.specs.declared.Three.{Three}
use Rattle.common.proofs.Answers.{answer_refused, refused_by, done_by}
use Rattle.common.proofs.Cases.{by_bool, by_lt}
use Rattle.common.proofs.Digits.{digit_below, from_digits_cong}
use Rattle.common.proofs.Limits.{shape_in, shape_out, shape_taken, passed, power_one, power_two}
use Rattle.vectors.specs.Order.{axis, place, axis_order}
use Rattle.vectors.specs.Vectors.{sizes, is_negative, case, at_most}
use Rattle.vectors.specs.LookUps.{entries, look_up_number, turn_of, turning_call}
use Rattle.vectors.specs.declared.Vector.{Vector}
use Rattle.vectors.specs.declared.Turn.{Turn}
use Rattle.vectors.proofs.Orders.{axis_order_below, axis_below, place_below}
use Rattle.turn_tables.specs.Turned.{reversed, turned_index, turned, returned_index, returned}
use Rattle.turn.specs.Follow.{follow_number, moves_of, follow_call}
use Rattle.turn_nodes.specs.Working.{negative_on, image_index, reversed_all, origin_index, Followable}
use Rattle.turn.specs.Working.{indices_of, index_number, node_number}
use Rattle.turn.proofs.Right.{case_axis, case_place, case_negative}

same_tests : (a b c d : ℕ) → (a < b → c < d) → (c < d → a < b) → ltb a b ≡ ltb c d
same_tests a b c d f g =
    by_lt a b (λ l e. e ∙ sym (lt-ltb c d (f l))) (λ l e. by_lt c d (λ l' e'. absurd (not_lt (g l') l)) (λ l' e'. e ∙ sym e'))
  where
    not_lt : a < b → b ≤ a → ⊥
    not_lt x y = omega (arith, x, y)

-- THE INDICES of a node

-- the first of D digits, for a D above 0
first_digit : (D p n : ℕ) → n / p ^ (D - 1) % p ≡ digit p D 0 n
unfolding digit
first_digit D p n = let e : D - 1 - 0 ≡ D - 1 = omega arith in rw e

-- p ^ D is p times p ^ (D - 1)
whole : (D p : ℕ) → 1 ≤ D → p ^ D ≡ p * p ^ (D - 1)
whole D p l = let e : D ≡ suc (D - 1) = omega arith in ap (λ (k : ℕ). p ^ k) e ∙ pow-succ' p (D - 1)

module _ (D p n : ℕ) (ok : Shape D p) where
  weight : 0 < p ^ (D - 1)
  weight = one-le-pow (D - 1) p ok.order_least

  -- the first index says whether a node is below p ^ D
  pub index_number_lem : (i : ℕ) → i ≡ (indices_of D p n).0 → index_number p i ≡ node_number D p n
  unfolding index_number node_number indices_of
  index_number_lem i e =
      let up : n / p ^ (D - 1) < p → n < p ^ D = λ l. rw (whole D p ok.dimension_least) ((div-lt_iff_lt-mul weight).0 l) in
      let down : n < p ^ D → n / p ^ (D - 1) < p = λ l. (div-lt_iff_lt-mul weight).1 (rw (whole D p ok.dimension_least) at l) in
      rw (e, same_tests (n / p ^ (D - 1)) p n (p ^ D) up down)

  module _ (h : n < p ^ D) where
    first_below_lem : n / p ^ (D - 1) < p
    first_below_lem = (div-lt_iff_lt-mul weight).1 (rw (whole D p ok.dimension_least) at h)

    pub indices_at : (a : ℕ) → a < D → three (indices_of D p n) a ≡ digit p D a n
    unfolding indices_of
    indices_at zero l = sym (mod-eq_of_lt first_below_lem) ∙ first_digit D p n
    indices_at (suc zero) l = rw (lt-ltb 1 D l)
    indices_at (suc (suc zero)) l = rw (lt-ltb 2 D l)
    indices_at (suc (suc (suc a))) l = let most = ok.dimension_most in absurd (omega arith)

    pub indices_below : (a : ℕ) → three (indices_of D p n) a < p
    unfolding indices_of
    indices_below zero = first_below_lem
    indices_below (suc zero) =
        by_bool (ltb 1 D) (λ e. rw e (digit_below p D 1 n ok.order_least)) (λ e. rw e ok.order_least)
    indices_below (suc (suc zero)) =
        by_bool (ltb 2 D) (λ e. rw e (digit_below p D 2 n ok.order_least)) (λ e. rw e ok.order_least)
    indices_below (suc (suc (suc a))) = ok.order_least

-- as the program finds them
module _ (D p n : ℕ) where
  pub indices_one : D ≡ 1 → ◌≡◌ {A = Three} (n, 0, 0) (indices_of D p n)
  unfolding indices_of
  indices_one e = rw (e, pow-zero, div-one)

  pub indices_two : D ≡ 2 → ◌≡◌ {A = Three} (n / p, n % p, 0) (indices_of D p n)
  unfolding indices_of digit
  indices_two e = rw (e, power_one p, pow-zero, div-one)

  pub indices_three : D ≡ 3 → ◌≡◌ {A = Three} (n / p / p, n / p % p, n % p) (indices_of D p n)
  unfolding indices_of digit
  indices_three e = rw (e, power_two p, power_one p, pow-zero, div-one, div-div-eq-div-mul n p p)

pub node_below : (D p n : ℕ) → node_number D p n ≡ 0 → n < p ^ D
unfolding node_number
node_below D p n z = ltb-true n (p ^ D) (passed (ltb n (p ^ D)) 4 0 z).0

-- THE IMAGE AND THE ORIGIN, by how the vector turns its reference

negative_on_lem : (D : ℕ) (v : ℕ → ℤ) (a : ℕ) → a < 3 → negative_on (turn_of D v) a ≡ is_negative (v a)
unfolding turn_of
negative_on_lem D v zero l = refl
negative_on_lem D v (suc zero) l = refl
negative_on_lem D v (suc (suc zero)) l = refl
negative_on_lem D v (suc (suc (suc a))) l = absurd (omega arith)

-- reversed by the axis
reversed_on : (p : ℕ) (t : Turn) (n : Three) (a : ℕ) → a < 3 → three (reversed_all p t n) a ≡ reversed p (negative_on t a) (three n a)
unfolding reversed_all
reversed_on p t n zero l = refl
reversed_on p t n (suc zero) l = refl
reversed_on p t n (suc (suc zero)) l = refl
reversed_on p t n (suc (suc (suc a))) l = absurd (omega arith)

module _ (D p : ℕ) (v : ℕ → ℤ) (n : ℕ) (ok : Shape D p) (h : n < p ^ D) where
  pub followable : Followable D p (turn_of D v) (indices_of D p n)
  unfolding turn_of
  followable = record { shape = ok; order = axis_order_below D (sizes v); below = indices_below D p n ok h }

  image_on : (a : ℕ) → a < D → image_index D p (turn_of D v) (indices_of D p n) a ≡ turned_index D p (case D v) n a
  unfolding image_index turned_index turn_of
  image_on a l =
      let k = axis_order D (sizes v) in
      let most = ok.dimension_most in
      rw (
        lt-ltb a D l,
        case_negative D v a l,
        case_place D v a,
        negative_on_lem D v a (omega arith),
        indices_at D p n ok h (place D k a) (place_below D k a (axis_order_below D (sizes v)) l),
      )

  pub image_right : from_digits p D (image_index D p (turn_of D v) (indices_of D p n)) ≡ turned D p (case D v) n
  unfolding turned
  image_right = from_digits_cong p D _ _ image_on

  origin_on : (m : ℕ) → m < D →
      origin_index D (turn_of D v).order (reversed_all p (turn_of D v) (indices_of D p n)) m ≡ returned_index D p (case D v) n m
  unfolding origin_index returned_index turn_of
  origin_on m l =
      let k = axis_order D (sizes v) in
      let at = axis_below D k m (axis_order_below D (sizes v)) l in
      let most = ok.dimension_most in
      let t = turn_of D v in
      let here : three (reversed_all p t (indices_of D p n)) (axis D k m) ≡ reversed p (is_negative (v (axis D k m))) (digit p D
      (axis D k m) n) =
      reversed_on p t (indices_of D p n) (axis D k m) (omega arith)
      ∙ rw (negative_on_lem D v (axis D k m) (omega arith), indices_at D p n ok h (axis D k m) at) in
      rw (lt-ltb m D l, case_axis D v m, case_negative D v (axis D k m) at) here

  pub origin_right : from_digits p D (origin_index D (turn_of D v).order (reversed_all p (turn_of D v) (indices_of D p n)))
      ≡ returned D p (case D v) n
  unfolding returned
  origin_right = from_digits_cong p D _ _ origin_on

-- THE NUMBER: the lower of the vector's and the node's

pub lower_number : (D p : ℕ) (s : ℕ → ℕ) (n : ℕ) → is_dimension D ≡ true → is_order p ≡ true →
    lower (look_up_number D s) (node_number D p n) ≡ follow_number D p s n
unfolding look_up_number follow_number node_number lower
lower_number D p s n d o =
    by_bool (at_most 3 D s)
    (λ e. by_bool (ltb n (p ^ D))
    (λ e'. by_bool (at_most 0 (3 - D) (λ a. s (D + a))) (λ e''. rw (d, o, e, e', e'')) (λ e''. rw (d, o, e, e', e'')))
    (λ e'. by_bool (at_most 0 (3 - D) (λ a. s (D + a))) (λ e''. rw (d, o, e, e', e'')) (λ e''. rw (d, o, e, e', e''))))
    (λ e. by_bool (ltb n (p ^ D)) (λ e'. rw (d, o, e, e')) (λ e'. rw (d, o, e, e')))

module _ (D p : ℕ) (v : Vector) (n : ℕ) where
  pub follow_refused : (number : ℕ) → number ≡ follow_number D p (sizes (entries v)) n → (number ≡ 0 → ⊥) →
      (number, none) ≡ follow_call D p v n
  unfolding follow_call
  follow_refused number e h = rw (← e) (answer_refused number _ h)

  pub shape_refused : (number : ℕ) → number ≡ shape_number D p → (number ≡ 0 → ⊥) →
      (number, none) ≡ follow_call D p v n
  unfolding follow_number
  shape_refused number e h = follow_refused number (e ∙ shape_out D p _ (rw e at h)) h

  module _ (shape : shape_number D p ≡ 0) where
    number_is : (own node : ℕ) → own ≡ look_up_number D (sizes (entries v)) → node ≡ node_number D p n →
        lower own node ≡ follow_number D p (sizes (entries v)) n
    number_is own node e e' =
        rw (e, e') (lower_number D p (sizes (entries v)) n (shape_in D p shape).0 (shape_in D p shape).1)

    -- what the vector and the node together bring is the number; and where it is 0, the vector turns its reference so
    pub lower_is : (t : Result Turn Refusal) (node : ℕ) → told t ≡ turning_call D v → node ≡ node_number D p n →
        lower (told_number t) node ≡ follow_number D p (sizes (entries v)) n
    unfolding turning_call
    lower_is (Ok turn) node h e' = number_is 0 node (sym (done_by (look_up_number D (sizes (entries v))) (turn_of D (entries v)) turn h).0) e'
    lower_is (Err own) node h e' =
        number_is (number own) node (refused_by (number own) (look_up_number D (sizes (entries v))) (turn_of D (entries v)) h).0 e'

    module _ (turn : Turn) (h : told (Ok turn) ≡ turning_call D v) (node : node_number D p n ≡ 0) where
      turned_so : (look_up_number D (sizes (entries v)) ≡ 0) × (turn ≡ turn_of D (entries v))
      unfolding turning_call
      turned_so = done_by (look_up_number D (sizes (entries v))) (turn_of D (entries v)) turn h

      taken : follow_number D p (sizes (entries v)) n ≡ 0
      unfolding lower
      taken = sym (number_is 0 0 (sym turned_so.0) (sym node))

      pub turn_followable : Followable D p turn (indices_of D p n)
      turn_followable = rw turned_so.1 (followable D p (entries v) n (shape_taken D p shape) (node_below D p n node))

      -- both are taken
      pub moves_found : (image origin : ℕ) → image ≡ from_digits p D (image_index D p turn (indices_of D p n)) →
          origin ≡ from_digits p D (origin_index D turn.order (reversed_all p turn (indices_of D p n))) →
          (0, some (record { image = image; origin = origin })) ≡ follow_call D p v n
      unfolding follow_call moves_of
      moves_found image origin i o =
          let ok = shape_taken D p shape in
          let h = node_below D p n node in
          let image-is : image ≡ turned D p (case D (entries v)) n = i ∙ rw turned_so.1 (image_right D p (entries v) n ok h) in
          let origin-is : origin ≡ returned D p (case D (entries v)) n = o ∙ rw turned_so.1 (origin_right D p (entries v) n ok h) in
          rw (taken, image-is, origin-is)
