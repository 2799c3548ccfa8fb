-- An order's axes and places undo each other, and the order of a vector's axes is by falling size, equals by axis number. Assumes nothing.
use mathlib.Core.Path.{◌≡◌, refl, sym, ap}
use mathlib.Core.Logic.{inl, inr, ⊎_elim}
use Prim.Native.Nat.{ℕ, zero, suc, ◌+◌, ◌-◌, ◌*◌, ◌/◌, ◌%◌, ◌<◌, ◌≤◌}
use native.Mathlib.Nat.{not-suc-le-zero, mod-lt, div-lt_iff_lt-mul, div-add-mod', div-mul-le_self, zero-div, zero-mod, zero-mul}
use native.Mathlib.Omega.{arith}
use lib.Arith.{digits_lt, digits_div, digits_mod}
use borrow.Author.Tests.{lt-ltb, le-ltb, eq-eqb, ne_eqb}
use Rattle.common.specs.Factorials.{factorial}
use Rattle.vectors.specs.Order.{skip, unskip, axis, place, largest, axis_order, sorted, Before, Earlier}
use Rattle.common.proofs.Factorials.{factorial_pos}
use Rattle.common.proofs.Cases.{by_lt, by_eq, by_last}

-- SKIPPING AN AXIS

skip_other : (c a : ℕ) → skip c a ≡ c → ⊥
unfolding skip
skip_other c a = by_lt a c (λ l e. rw e λ q. omega arith) (λ l e. rw e λ q. omega arith)

skip_rises : (c a b : ℕ) → a < b → skip c a < skip c b
unfolding skip
skip_rises c a b h =
    by_lt a c (λ l e. by_lt b c (λ l' e'. rw (e, e') h) (λ l' e'. rw (e, e') (omega arith)))
    (λ l e. rw (e, le-ltb b c (omega arith)) (omega arith))

skip_below : (c a n : ℕ) → a < n → skip c a < suc n
unfolding skip
skip_below c a n h = by_lt a c (λ l e. rw e (omega arith)) (λ l e. rw e (omega arith))

unskip_below : (c a n : ℕ) → c < suc n → a < suc n → (a ≡ c → ⊥) → unskip c a < n
unfolding unskip
unskip_below c a n hc ha d = by_lt c a (λ l e. rw e (omega arith)) (λ l e. rw e (omega arith))

unskip_skip : (c a : ℕ) → unskip c (skip c a) ≡ a
unfolding skip unskip
unskip_skip c a =
    by_lt a c (λ l e. rw (e, le-ltb c a (omega arith))) (λ l e. rw (e, lt-ltb c (a + 1) (omega arith)) (omega arith))

skip_unskip : (c a : ℕ) → (a ≡ c → ⊥) → skip c (unskip c a) ≡ a
unfolding skip unskip
skip_unskip c a d =
    by_lt c a (λ l e. rw (e, le-ltb (a - 1) c (omega arith)) (omega arith)) (λ l e. rw (e, lt-ltb a c (omega arith)))

-- AXES AND PLACES

rest_below : (n k : ℕ) → k % factorial n < factorial n
rest_below n k = mod-lt k (factorial_pos n)

first_below_lem : (n k : ℕ) → k < factorial (suc n) → k / factorial n < suc n
unfolding factorial
first_below_lem n k h = (div-lt_iff_lt-mul (factorial_pos n)).1 h

pub axis_below : (n k m : ℕ) → k < factorial n → m < n → axis n k m < n
unfolding axis
axis_below zero k m h l = absurd (not-suc-le-zero l)
axis_below (suc n) k zero h l = first_below_lem n k h
axis_below (suc n) k (suc m) h l =
    skip_below (k / factorial n) (axis n (k % factorial n) m) n (axis_below n (k % factorial n) m (rest_below n k) (omega arith))

pub place_below : (n k a : ℕ) → k < factorial n → a < n → place n k a < n
unfolding place
place_below zero k a h l = absurd (not-suc-le-zero l)
place_below (suc n) k a h l =
    by_eq a (k / factorial n) (λ _ e. rw e (omega arith))
    (λ d e. rw e
    (let less = place_below n (k % factorial n) (unskip (k / factorial n) a) (rest_below n k)
    (unskip_below (k / factorial n) a n (first_below_lem n k h) l d) in omega arith))

pub axis_place : (n k a : ℕ) → k < factorial n → a < n → axis n k (place n k a) ≡ a
unfolding axis place
axis_place zero k a h l = absurd (not-suc-le-zero l)
axis_place (suc n) k a h l =
    by_eq a (k / factorial n) (λ q e. rw e (sym q))
    (λ d e. rw (
      e,
      axis_place n (k % factorial n) (unskip (k / factorial n) a) (rest_below n k)
          (unskip_below (k / factorial n) a n (first_below_lem n k h) l d),
    )
    (skip_unskip (k / factorial n) a d))

pub place_axis : (n k m : ℕ) → k < factorial n → m < n → place n k (axis n k m) ≡ m
unfolding axis place
place_axis zero k m h l = absurd (not-suc-le-zero l)
place_axis (suc n) k zero h l = rw (eq-eqb (k / factorial n) (k / factorial n) refl)
place_axis (suc n) k (suc m) h l =
    rw (ne_eqb _ _ (skip_other (k / factorial n) (axis n (k % factorial n) m)), unskip_skip)
    (ap suc (place_axis n (k % factorial n) m (rest_below n k) (omega arith)))

-- THE ORDERS ARE NUMBERED LEXICOGRAPHICALLY

-- the same first axis: the orders of the rest decide
same_tail : (n j k : ℕ) → j / factorial n ≡ k / factorial n → (at : ℕ) →
    ((m : ℕ) → m < at → axis n (j % factorial n) m ≡ axis n (k % factorial n) m) →
    (m : ℕ) → m < suc at → axis (suc n) j m ≡ axis (suc n) k m
unfolding axis
same_tail n j k e at h zero l = e
same_tail n j k e at h (suc m) l = rw (e, h m (omega arith))

later : (n j k : ℕ) → j / factorial n ≡ k / factorial n → Earlier n (j % factorial n) (k % factorial n) → Earlier (suc n) j k
unfolding axis
later n j k e h =
    record {
      at = suc h.at;
      on = omega (arith, h.on);
      same = same_tail n j k e h.at h.same;
      less = rw e (skip_rises (k / factorial n) _ _ h.less);
    }

pub lexicographic : (n j k : ℕ) → j < k → k < factorial n → Earlier n j k
unfolding factorial axis
lexicographic zero j k l h = absurd (omega arith)
lexicographic (suc n) j k l h =
    let f = factorial n in
    let o = factorial_pos n in
    let ej = div-add-mod' j f in
    let ek = div-add-mod' k f in
    by_eq (j / f) (k / f)
    (λ e _. later n j k e
    (lexicographic n (j % f) (k % f) (let same : j / f * f ≡ k / f * f = ap (λ (q : ℕ). q * f) e in omega arith) (rest_below n k)))
    (λ d _. record {
      at = 0;
      on = omega arith;
      same = λ m b. absurd (not-suc-le-zero b);
      less = by_lt (j / f) (k / f) (λ b _. b)
          (λ b _. absurd
          (let more : k < j / f * f = (div-lt_iff_lt-mul o).0 (omega arith) in
          let most = div-mul-le_self j f in omega arith));
    })

-- THE ORDER BY FALLING SIZE

largest_below : (n : ℕ) (s : ℕ → ℕ) → largest (suc n) s < suc n
unfolding largest
largest_below zero s = rw (le-ltb (s 0) (s 0) (omega arith)) (omega arith)
largest_below (suc n) s =
    by_lt (s (largest (suc n) s)) (s (suc n)) (λ l e. rw e (omega arith))
    (λ l e. rw e (let h = largest_below n s in omega arith))

largest_le : (n : ℕ) (s : ℕ → ℕ) → largest n s ≤ n
unfolding largest
largest_le zero s = omega arith
largest_le (suc n) s = let h = largest_below n s in omega arith

-- the largest comes before every other axis
largest_first : (n : ℕ) (s : ℕ → ℕ) (b : ℕ) → b < n → (b ≡ largest n s → ⊥) → Before s (largest n s) b
unfolding largest
largest_first zero s b l = absurd (not-suc-le-zero l)
largest_first (suc n) s b l =
    by_lt (s (largest n s)) (s n)
    (λ h e. rw e λ d. by_eq b (largest n s) (λ q _. inl (rw q h))
    (λ d' _. ⊎_elim (λ x. inl (omega arith)) (λ x. inl (omega arith)) (largest_first n s b (omega arith) d')))
    (λ h e. rw e λ d. by_last b n l
    (λ q. rw q (by_lt (s n) (s (largest n s)) (λ h' _. inl h')
    (λ h' _. inr (omega arith, let le = largest_le n s in omega arith))))
    (λ l'. largest_first n s b l' d))

-- what the order's number says of its first axis, and of the rest
others : (n : ℕ) → (ℕ → ℕ) → (ℕ → ℕ)
others n s a = s (skip (largest (suc n) s) a)

pub axis_order_below : (n : ℕ) (s : ℕ → ℕ) → axis_order n s < factorial n
unfolding axis_order factorial
axis_order_below zero s = omega arith
axis_order_below (suc n) s = digits_lt (largest_below n s) (axis_order_below n (λ a. s (skip (largest (suc n) s) a)))

order_first : (n : ℕ) (s : ℕ → ℕ) → axis_order (suc n) s / factorial n ≡ largest (suc n) s
unfolding axis_order
order_first n s = digits_div (largest (suc n) s) (axis_order_below n (λ a. s (skip (largest (suc n) s) a)))

order_rest : (n : ℕ) (s : ℕ → ℕ) → axis_order (suc n) s % factorial n ≡ axis_order n (others n s)
unfolding axis_order others
order_rest n s = digits_mod (largest (suc n) s) (axis_order_below n (others n s))

pub falls : (n : ℕ) (s : ℕ → ℕ) (i j : ℕ) → i < j → j < n → Before s (axis n (axis_order n s) i) (axis n (axis_order n s) j)
unfolding axis others
falls zero s i j h l = absurd (not-suc-le-zero l)
falls (suc n) s i zero h l = absurd (not-suc-le-zero h)
falls (suc n) s zero (suc j) h l =
    rw (order_first, order_rest)
    (let a = axis n (axis_order n (others n s)) j in
    let c = largest (suc n) s in
    largest_first (suc n) s (skip c a)
    (skip_below c a n (axis_below n (axis_order n (others n s)) j (axis_order_below n (others n s)) (omega arith)))
    (skip_other c a))
falls (suc n) s (suc i) (suc j) h l =
    rw (order_first, order_rest)
    (⊎_elim inl (λ x. inr (x.0, skip_rises (largest (suc n) s) _ _ x.1))
    (falls n (others n s) i j (omega arith) (omega arith)))

-- WHY IT SORTS: the sizes fall, and of equal sizes the first axis comes first
module _ (n : ℕ) (s : ℕ → ℕ) (i j : ℕ) (h : i < j) (l : j < n) where
  pub sizes_fall : s (axis n (axis_order n s) j) ≤ s (axis n (axis_order n s) i)
  sizes_fall = ⊎_elim (λ x. omega arith) (λ x. omega arith) (falls n s i j h l)

  pub equals_in_order : s (axis n (axis_order n s) i) ≡ s (axis n (axis_order n s) j) → axis n (axis_order n s) i < axis n (axis_order n s) j
  equals_in_order e = ⊎_elim (λ x. absurd (omega arith)) (λ x. x.1) (falls n s i j h l)

-- SORTED SIZES

-- sizes that do not rise
abbrev pub Falling : (n : ℕ) → (ℕ → ℕ) → Type 0
Falling n s = (i j : ℕ) → i < j → j < n → s j ≤ s i

pub sorted_falling : (n : ℕ) (s : ℕ → ℕ) → Falling n (sorted n s)
unfolding sorted
sorted_falling = sizes_fall

top : (n : ℕ) (s : ℕ → ℕ) (m : ℕ) → m < n → sorted n s m ≤ sorted n s 0
top n s zero l = omega arith
top n s (suc m) l = sorted_falling n s 0 (suc m) (omega arith) l

-- every size is at most the first of the sorted
pub sorted_first : (n : ℕ) (s : ℕ → ℕ) (a : ℕ) → a < n → s a ≤ sorted n s 0
unfolding sorted
sorted_first n s a l =
    let o = axis_order_below n s in
    rw (axis_place n (axis_order n s) a o l) at (top n s (place n (axis_order n s) a) (place_below n (axis_order n s) a o l))

-- SIZES THAT DO NOT RISE ARE SORTED

largest_falling : (n : ℕ) (r : ℕ → ℕ) → Falling (suc n) r → largest (suc n) r ≡ 0
unfolding largest
largest_falling zero r f = rw (le-ltb (r 0) (r 0) (omega arith))
largest_falling (suc n) r f =
    let e = largest_falling n r (λ i j h l. f i j h (omega arith)) in
    rw (e, le-ltb (r 0) (r (suc n)) (f 0 (suc n) (omega arith) (omega arith)))

order_falling : (n : ℕ) (r : ℕ → ℕ) → Falling n r → axis_order n r ≡ 0
unfolding axis_order
order_falling zero r f = refl
order_falling (suc n) r f =
    rw (largest_falling n r f, zero-mul)
    (let e = order_falling n (λ a. r (skip 0 a)) (λ i j h l. f _ _ (skip_rises 0 i j h) (skip_below 0 j n l)) in omega arith)

axis_zero : (n m : ℕ) → m < n → axis n 0 m ≡ m
unfolding axis skip
axis_zero zero m l = absurd (not-suc-le-zero l)
axis_zero (suc n) zero l = zero-div (factorial n)
axis_zero (suc n) (suc m) l =
    rw (zero-div, zero-mod, axis_zero n m (omega arith), le-ltb m 0 (omega arith)) (omega arith)

pub sorted_same : (n : ℕ) (r : ℕ → ℕ) → Falling n r → (m : ℕ) → m < n → sorted n r m ≡ r m
unfolding sorted
sorted_same n r f m l = rw (order_falling n r f, axis_zero n m l)
