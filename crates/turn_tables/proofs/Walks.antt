-- Walking the nodes row by row: steps keep the image, and the stores of a row are those of its nodes. Assumes nothing.
use Rattle.std.proofs.Common.{◌≡◌, ℕ, zero, suc, ◌+◌, ◌-◌, ◌*◌, ◌%◌, ◌^◌, ◌<◌, ◌≤◌, Bool, true, false, List, length, set, sym, refl, ap, ◌∙◌, add-zero, mod-lt, mod-eq_of_lt, mul_assoc, add-mul, mul-le-mul, lt_of_mul-lt-mul_right, pow-suc, cond, not, eqb, zero-mul, mul-one, mul-div_cancel, add-one, arith, length-set, le-ltb, lt-ltb}
use native.Mathlib.Nat.{zero-div, zero-mod, pow-zero, pow-le-pow_right}
use native.Mathlib.Nat.{one-le-pow, mod-add-mod}
use lib.Arith.{digits_mod}
use Rattle.common.specs.Digits.{from_digits, digit}
use Rattle.common.specs.Refusals.{Shape}
use Rattle.common.specs.Lists.{stores}
use Rattle.common.specs.Factorials.{factorial}
use Rattle.vectors.specs.Order.{axis}
use Rattle.turn_tables.specs.Turned.{reversed, negative, axis_of, turned_index, turned}
use Rattle.turn_tables.specs.Working.{step_of, steps_of, stepped, stored, Runs}
use Rattle.turn_tables.specs.declared.Steps.{Steps}
use Rattle.common.proofs.Cases.{by_bool, by_lt}
use Rattle.common.proofs.Digits.{from_digits_below}
use Rattle.common.proofs.Limits.{power_most, power_one, power_two, power_rows}
use Rattle.common.proofs.Stores.{stores_more, stores_cong, stores_add}
use Rattle.common.proofs.Matrices.{next_column}
use Rattle.common.proofs.Factorials.{factorial_pos}
use Rattle.vectors.proofs.Orders.{axis_below}
use Rattle.turn_tables.proofs.Nodes.{turned_step, turned_below, turned_index_below}

-- one step further
pub stepped_next : (start step i : ℕ) → (stepped start step i + step) % 2 ^ 64 ≡ stepped start step (i + 1)
unfolding stepped
stepped_next start step i =
    let sum : start + i * step + step ≡ start + (i + 1) * step = rw add-mul (omega arith) in
    mod-add-mod (start + i * step) (2 ^ 64) step ∙ ap (λ (x : ℕ). x % 2 ^ 64) sum

pub stepped_none : (start step : ℕ) → start < 2 ^ 64 → stepped start step 0 ≡ start
unfolding stepped
stepped_none start step h = let none : start + 0 * step ≡ start = rw zero-mul (omega arith) in rw none (mod-eq_of_lt h)

-- A ROW'S STORES: i of them are made, and the next image is at hand

pub record Storing (place value : ℕ → ℕ) (image step order : ℕ) (before now : List ℕ) (to i : ℕ) : Type 0 where
  pub most : i ≤ order
  pub long : length now ≡ length before
  pub made : now ≡ stores place value i before
  pub next : to ≡ stepped image step i

module _ (place value : ℕ → ℕ) (image step order : ℕ) (before : List ℕ) where
  pub storing_none : image < 2 ^ 64 → Storing place value image step order before before image 0
  unfolding stores
  storing_none h = record { most = omega arith; long = refl; made = refl; next = sym (stepped_none image step h) }

  pub storing_more : (now : List ℕ) (to i at x to' : ℕ) → Storing place value image step order before now to i → i < order →
      at ≡ place i → x ≡ value i → to' ≡ (to + step) % 2 ^ 64 → Storing place value image step order before (set now at x) to' (i + 1)
  storing_more now to i at x to' s l ha hx ht =
      record {
        most = omega arith;
        long = length-set now at x ∙ s.long;
        made = rw (s.made, ha, hx) (stores_more place value i before);
        next = ht ∙ rw s.next (stepped_next image step i);
      }

-- for the inverse, a flag that is not 0, the image is the place and the node the value
abbrev pub place_of : (inverse : ℕ) (node image : ℕ → ℕ) → ℕ → ℕ
place_of inverse node image = cond (eqb inverse 0) node image

abbrev pub value_of : (inverse : ℕ) (node image : ℕ → ℕ) → ℕ → ℕ
value_of inverse node image = cond (eqb inverse 0) image node

pub stored_by : (inverse : ℕ) (node image : ℕ → ℕ) (n : ℕ) (l : List ℕ) →
    stores (place_of inverse node image) (value_of inverse node image) n l ≡ stored (not (eqb inverse 0)) node image n l
unfolding stored
stored_by inverse node image n l = by_bool (eqb inverse 0) (λ e. rw e) (λ e. rw e)

-- A STEP, from the factorial, the axis and its weight that a program has found

pub no_step : (D p k e : ℕ) → D ≤ e → 0 ≡ step_of D p k e
unfolding step_of
no_step D p k e l = rw (le-ltb e D l)

module _ (D k e f a : ℕ) (hf : f ≡ factorial D) (ha : a ≡ axis D (k % f) (D - 1 - e)) (l : e < D) where
  step_axis : axis_of D k (D - 1 - e) ≡ a
  unfolding axis_of
  step_axis = rw (ha, hf)

  pub step_axis_below : a < D
  step_axis_below = rw (ha, hf) (axis_below D (k % factorial D) (D - 1 - e) (mod-lt k (factorial_pos D)) (omega arith))

module _ (D p k e f a w : ℕ) (hf : f ≡ factorial D) (ha : a ≡ axis D (k % f) (D - 1 - e)) (hw : w ≡ p ^ (D - 1 - a)) (l : e < D) where
  pub step_up : (reverse : Bool) → reverse ≡ negative D k a → reverse ≡ false → w ≡ step_of D p k e
  unfolding step_of
  step_up reverse r h = rw (lt-ltb e D l, step_axis D k e f a hf ha l, ← r, h, hw)

  pub step_down : (reverse : Bool) → reverse ≡ negative D k a → reverse ≡ true → 0 < w → (2 ^ 64 - 1) - (w - 1) ≡ step_of D p k e
  unfolding step_of
  step_down reverse r h o = rw (lt-ltb e D l, step_axis D k e f a hf ha l, ← r, h, ← hw) (omega arith)

-- the digit that a multiple of a weight has there
digit_at : (p D e c j : ℕ) → e < D → 0 < p → j < p → digit p D (D - 1 - e) ((c * p + j) * p ^ e) ≡ j
unfolding digit
digit_at p D e c j l o h =
    let back : D - 1 - (D - 1 - e) ≡ e = omega arith in
    rw (back, mul-div_cancel (c * p + j) (one-le-pow e p o)) (digits_mod c h)

-- POWERS AND MULTIPLES

cube : (p : ℕ) → p ^ 3 ≡ p * (p * p)
cube p = pow-suc p 2 ∙ rw (power_two p) (mul_assoc p p p)

-- WHERE THE WALK STANDS: a row of nodes, the image of its first, and that of its plane's first

pub record At (D p k node row image plane : ℕ) : Type 0 where
  pub planes : ℕ
  pub here : node ≡ (planes * p + row) * p
  pub less : row < p
  pub row_image : node < p ^ D → image ≡ turned D p k node
  pub plane_image : node < p ^ D → plane ≡ turned D p k (planes * p * p)

module _ (D p k : ℕ) (ok : Shape D p) where
  few : p ^ D ≤ 4096
  few = power_most p D ok.order_most ok.dimension_most

  -- THE START: the indices of node 0's image, axis by axis

  pub start_next : (a start index : ℕ) (reverse : Bool) → start ≡ from_digits p a (turned_index D p k 0) → reverse ≡ negative D k a →
      index ≡ reversed p reverse 0 → start * p + index ≡ from_digits p (a + 1) (turned_index D p k 0)
  unfolding from_digits turned_index digit
  start_next a start index reverse s r i = rw (add-one a) (rw (s, i, r, zero-div, zero-mod))

  pub start_most : (a : ℕ) → a ≤ D → from_digits p a (turned_index D p k 0) ≤ 4096
  start_most a l =
      let less = from_digits_below p a (turned_index D p k 0) (λ b m. turned_index_below D p k ok.order_least 0 b (omega arith)) in
      omega (arith, power_most p a ok.order_most (omega (arith, ok.dimension_most)))

  -- a step on axis number e from the last, from a node that is so many of its weight
  step_at : (e c j : ℕ) → e < D → j + 1 < p → (c * p + j) * p ^ e < p ^ D →
      (turned D p k ((c * p + j) * p ^ e) + step_of D p k e) % 2 ^ 64 ≡ turned D p k ((c * p + j) * p ^ e + p ^ e)
  step_at e c j l h b =
      turned_step D p k ok.order_least e ((c * p + j) * p ^ e) l few b
      (rw (digit_at p D e c j l ok.order_least (omega arith)) h)

  -- the images of a row of nodes
  row_images : (c i : ℕ) → c * p + p ≤ p ^ D → i < p → stepped (turned D p k (c * p)) (step_of D p k 0) i ≡ turned D p k (c * p + i)
  row_images c zero b h =
      rw (add-zero (c * p)) (stepped_none _ _ (let less = turned_below D p k ok.order_least (c * p) in omega (arith, few)))
  row_images c (suc i) b h =
      let one : (c * p + i) * p ^ 0 ≡ c * p + i = rw (pow-zero, mul-one) in
      let next : (turned D p k (c * p + i) + step_of D p k 0) % 2 ^ 64 ≡ turned D p k (c * p + i + 1) =
      rw (one, pow-zero) at (step_at 0 c i (omega (arith, ok.dimension_least)) (omega arith) (rw one (omega arith))) in
      rw (← add-one i, ← stepped_next, row_images c i b (omega arith), next) (ap (turned D p k) (omega arith))

  pub at_start : At D p k 0 0 (turned D p k 0) (turned D p k 0)
  at_start =
      record {
        planes = 0;
        here = rw (zero-mul p) (sym (zero-mul p));
        less = ok.order_least;
        row_image = λ _. refl;
        plane_image = λ _. ap (turned D p k) (rw (zero-mul p) (sym (zero-mul p)));
      }

  -- where a node and a weight stay among the nodes, there is an axis with that weight
  axis_left : (e n : ℕ) → n + p ^ e < p ^ D → e < D
  axis_left e n b = by_lt e D (λ l _. l) (λ g _. absurd (let most = pow-le-pow_right ok.order_least g in omega arith))

  -- a whole row is left where a node is
  row_fits : (c : ℕ) → c * p < p ^ D → c * p + p ≤ p ^ D
  row_fits c b =
      let rows = power_rows p D ok.dimension_least in
      let less : c < p ^ (D - 1) = lt_of_mul-lt-mul_right p (rw rows at b) in
      rw (rows, ← next_column c p) (mul-le-mul {n₁ = c + 1} {m₁ = p} (omega arith) (omega arith))

  module _ (node row image plane : ℕ) (at : At D p k node row image plane) (b : node < p ^ D) where
    pub at_fits : node + p ≤ p ^ D
    at_fits = rw at.here (row_fits (at.planes * p + row) (rw at.here at b))

    at_images : (i : ℕ) → i < p → stepped image (step_of D p k 0) i ≡ turned D p k (node + i)
    at_images i h = rw (at.row_image b, at.here) (row_images (at.planes * p + row) i (rw at.here at at_fits) h)

    pub at_runs : Runs node p image (step_of D p k 0) (p ^ D)
    at_runs =
        record {
          few = few;
          nodes = at_fits;
          images = λ i h. rw (at_images i h) (turned_below D p k ok.order_least (node + i));
        }

    pub at_row : row + 1 < p → At D p k (node + p) (row + 1) ((image + step_of D p k 1) % 2 ^ 64) plane
    at_row h =
        let c = at.planes in
        let here : (c * p + row) * p ≡ node = sym at.here in
        let one : (c * p + row) * p ^ 1 ≡ node = ap (λ (w : ℕ). (c * p + row) * w) (power_one p) ∙ here in
        let step : (l : 1 < D) → (turned D p k node + step_of D p k 1) % 2 ^ 64 ≡ turned D p k (node + p) =
        λ l. rw (one, power_one p) at (step_at 1 c row l h (rw one b)) in
        record {
          planes = c;
          here = rw (← here, ← next_column) (ap (λ (x : ℕ). x * p) (omega arith));
          less = h;
          row_image = λ b'. rw (at.row_image b) (step (axis_left 1 node (rw (power_one p) b')));
          plane_image = λ b'. at.plane_image b;
        }

    pub at_plane : row + 1 ≡ p → At D p k (node + p) 0 ((plane + step_of D p k 2) % 2 ^ 64) ((plane + step_of D p k 2) % 2 ^ 64)
    at_plane h =
        let c = at.planes in
        let first : (0 * p + c) * p ^ 2 ≡ c * p * p = rw (zero-mul, power_two p)
        (ap (λ (x : ℕ). x * (p * p)) (omega arith) ∙ sym (mul_assoc c p p)) in
        let whole : (c + 1) * p * p ≡ c * p * p + p * p = rw (next_column, add-mul) in
        let full : c * p + row + 1 ≡ c * p + p = omega arith in
        let next : c * p * p + p * p ≡ node + p =
        rw at.here (sym (add-mul (c * p) p p) ∙ ap (λ (x : ℕ). x * p) (sym full) ∙ next_column (c * p + row) p) in
        let step : node + p < p ^ D → (plane + step_of D p k 2) % 2 ^ 64 ≡ turned D p k (node + p) =
        λ b'. let most : p ^ D ≤ p * (p * p) = rw cube at (pow-le-pow_right ok.order_least ok.dimension_most) in
        let less : (c + 1) * (p * p) < p * (p * p) = rw (← mul_assoc (c + 1) p p, whole) (omega arith) in
        rw (at.plane_image b, ← next) (rw (first, power_two p) at
        (step_at 2 0 c (axis_left 2 (c * p * p) (rw (power_two p, next) b')) (lt_of_mul-lt-mul_right (p * p) less)
        (rw first (omega arith)))) in
        record {
          planes = c + 1;
          here = sym next ∙ sym whole ∙ ap (λ (x : ℕ). x * p) (sym (add-zero ((c + 1) * p)));
          less = ok.order_least;
          row_image = step;
          plane_image = λ b'. step b' ∙ ap (turned D p k) (sym next ∙ sym whole);
        }

    pub stored_row : (inverse : Bool) (l : List ℕ) →
        stored inverse (λ i. node + i) (stepped image (step_of D p k 0)) p (stored inverse (λ n. n) (turned D p k) node l)
        ≡ stored inverse (λ n. n) (turned D p k) (node + p) l
    unfolding stored
    stored_row false l =
        stores_cong (λ i. node + i) (λ i. node + i) (stepped image (step_of D p k 0)) (λ i. turned D p k (node + i)) p _
        (λ _ _. refl) at_images
        ∙ stores_add (λ n. n) (turned D p k) node p l
    stored_row true l =
        stores_cong (stepped image (step_of D p k 0)) (λ i. turned D p k (node + i)) (λ i. node + i) (λ i. node + i) p _ at_images
        (λ _ _. refl)
        ∙ stores_add (turned D p k) (λ n. n) node p l

-- THE WHOLE WALK: the nodes before this row are stored

pub record Walked (inverse : Bool) (D p k : ℕ) (before now : List ℕ) (node row image plane : ℕ) : Type 0 where
  pub long : length now ≡ length before
  pub most : node ≤ p ^ D
  pub made : now ≡ stored inverse (λ n. n) (turned D p k) node before
  pub at : At D p k node row image plane

stored_none : (inverse : Bool) (node image : ℕ → ℕ) (l : List ℕ) → stored inverse node image 0 l ≡ l
unfolding stored stores
stored_none false node image l = refl
stored_none true node image l = refl

module _ (inverse : Bool) (D p k : ℕ) (ok : Shape D p) (steps : Steps) (known : steps ≡ steps_of D p k) (before : List ℕ) where
  pub walked_none : Walked inverse D p k before before 0 0 steps.start steps.start
  unfolding steps_of
  walked_none =
      record {
        long = refl;
        most = omega arith;
        made = sym (stored_none inverse _ _ before);
        at = rw known (at_start D p k ok);
      }

  module _ (now : List ℕ) (node row image plane : ℕ) (w : Walked inverse D p k before now node row image plane) (b : node < p ^ D) where
    pub walked_runs : Runs node p image steps.node (p ^ D)
    unfolding steps_of
    walked_runs = rw known (at_runs D p k ok node row image plane w.at b)

    module _ (after : List ℕ) (kept : length after ≡ length now) (row_made : after
        ≡ stored inverse (λ i. node + i) (stepped image steps.node) p now) where
      made_more : after ≡ stored inverse (λ n. n) (turned D p k) (node + p) before
      unfolding steps_of
      made_more = row_made ∙ rw (known, w.made) (stored_row D p k ok node row image plane w.at b inverse before)

      pub walked_row : (image' : ℕ) → row + 1 < p → image' ≡ (image + steps.row) % 2 ^ 64 →
          Walked inverse D p k before after (node + p) (row + 1) image' plane
      unfolding steps_of
      walked_row image' l e =
          record {
            long = kept ∙ w.long;
            most = at_fits D p k ok node row image plane w.at b;
            made = made_more;
            at = rw (e, known) (at_row D p k ok node row image plane w.at b l);
          }

      pub walked_plane : (plane' : ℕ) → row + 1 ≡ p → plane' ≡ (plane + steps.plane) % 2 ^ 64 →
          Walked inverse D p k before after (node + p) 0 plane' plane'
      unfolding steps_of
      walked_plane plane' l e =
          record {
            long = kept ∙ w.long;
            most = at_fits D p k ok node row image plane w.at b;
            made = made_more;
            at = rw (e, known) (at_plane D p k ok node row image plane w.at b l);
          }
