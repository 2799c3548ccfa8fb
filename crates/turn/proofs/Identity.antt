-- A table that moves nothing is no turn onto a vector with a negative entry, in any order above 1: demand 3 shuts it out. Assumes nothing.
use mathlib.Core.Path.{◌≡◌, refl, sym, ap, ◌∙◌}
use mathlib.Core.Bool.{cond}
use Prim.Native.Nat.{ℕ, zero, suc, ◌+◌, ◌*◌, ◌-◌, ◌^◌, ◌<◌}
use native.Mathlib.Omega.{arith}
use lib.Dec.{eqb}
use lib.IntN.{ℤ, pos, negsuc, nat_abs}
use borrow.Author.Tests.{le-ltb, eq-eqb, ne_eqb}
use Rattle.common.specs.Digits.{from_digits, digit}
use Rattle.common.proofs.Cases.{by_eq}
use Rattle.common.proofs.Digits.{digit_from_digits, from_digits_below}
use Rattle.vectors.specs.Order.{place, axis_order}
use Rattle.vectors.specs.Vectors.{sizes}
use Rattle.turn.specs.Turns.{Mirrored, distance, matching, Turns}
use Rattle.vectors.proofs.Orders.{axis_order_below, place_below, axis_place}
use Rattle.turn.proofs.Right.{nat_abs_neg, distance_neg}

-- the first node at -1, the last at 1, and all others at 0
ends : (p i : ℕ) → ℤ
ends p i = cond (eqb i 0) (negsuc 0) (cond (eqb i (p - 1)) (pos 1) (pos 0))

module _ (p : ℕ) (o : 1 < p) where
  ends_last : ends p (p - 1) ≡ pos 1
  unfolding ends
  ends_last = rw (ne_eqb (p - 1) 0 (λ e. omega arith), eq-eqb (p - 1) (p - 1) refl)

  ends_mirrored : Mirrored p (ends p)
  unfolding ends
  ends_mirrored i l =
      by_eq i 0
      (λ e _. rw (e, ne_eqb (p - 1 - 0) 0 (λ z. omega arith), eq-eqb (p - 1 - 0) (p - 1) (omega arith)))
      (λ d f. by_eq i (p - 1)
      (λ e g. rw (f, g, eq-eqb (p - 1 - i) 0 (omega arith)))
      (λ d' g. rw (f, g, ne_eqb (p - 1 - i) 0 (λ z. d' (omega arith)), ne_eqb (p - 1 - i) (p - 1) (λ z. d (omega arith)))))

-- the distances from one end to the other, both ways, for an entry k and for an entry -(n + 1), are not of equal sizes
up : (k : ℕ) → nat_abs (distance (pos k) (pos 1) (negsuc 0)) ≡ 2 * k + 2
unfolding distance
up k = omega arith

down : (k : ℕ) → nat_abs (distance (pos (suc k)) (negsuc 0) (pos 1)) ≡ 2 * k
unfolding distance
down k =
    rw (le-ltb (2 * suc k) 1 (omega arith), le-ltb (2 * suc k - 1) 1 (omega arith)) (omega arith)

down_none : nat_abs (distance (pos 0) (negsuc 0) (pos 1)) ≡ 2
unfolding distance
down_none = refl

module _ (n : ℕ) where
  negative_up : nat_abs (distance (negsuc n) (pos 1) (negsuc 0)) ≡ 2 * n
  negative_up = ap nat_abs (distance_neg n (negsuc 0) (pos 1)) ∙ nat_abs_neg (distance (pos (suc n)) (negsuc 0) (pos 1)) ∙ down n

  negative_down : nat_abs (distance (negsuc n) (negsuc 0) (pos 1)) ≡ 2 * suc n + 2
  negative_down = ap nat_abs (distance_neg n (pos 1) (negsuc 0)) ∙ nat_abs_neg (distance (pos (suc n)) (pos 1) (negsuc 0)) ∙ up (suc n)

  unequal : (k : ℕ) → nat_abs (distance (pos k) (pos 1) (negsuc 0)) ≡ nat_abs (distance (negsuc n) (pos 1) (negsuc 0)) →
      nat_abs (distance (pos k) (negsuc 0) (pos 1)) ≡ nat_abs (distance (negsuc n) (negsuc 0) (pos 1)) → ⊥
  unequal zero e f = omega (arith, sym down_none ∙ f ∙ negative_down)
  unequal (suc k) e f = omega (arith, sym (up (suc k)) ∙ e ∙ negative_up, sym (down k) ∙ f ∙ negative_down)

-- THE THEOREM: whatever block of entries that are not negative, and whatever inverse
module _ (D p : ℕ) (r : ℕ → ℕ) (v : ℕ → ℤ) (inverse : ℕ → ℕ) (o : 1 < p) where
  abbrev low : ℕ
  low = from_digits p D (λ _. 0)

  abbrev high : ℕ
  high = from_digits p D (λ _. p - 1)

  low_digit : (a : ℕ) → a < D → digit p D a low ≡ 0
  low_digit = digit_from_digits p D (λ _. 0) (λ _ _. omega arith)

  high_digit : (a : ℕ) → a < D → digit p D a high ≡ p - 1
  high_digit = digit_from_digits p D (λ _. p - 1) (λ _ _. omega arith)

  pub identity_is_wrong : (a n : ℕ) → a < D → v a ≡ negsuc n → Turns D p (λ m. pos (r m)) v (λ n. n) inverse → ⊥
  unfolding ends
  identity_is_wrong a n l e w =
      let k = axis_order_below D (sizes v) in
      let m = place D (axis_order D (sizes v)) a in
      let on : m < D = place_below D _ a k l in
      let here : matching D v m ≡ a = axis_place D _ a k l in
      let first : low < p ^ D = from_digits_below p D (λ _. 0) (λ _ _. omega arith) in
      let last : high < p ^ D = from_digits_below p D (λ _. p - 1) (λ _ _. omega arith) in
      let there = w.distances (ends p) (ends_mirrored p o) high low m last first on in
      let back = w.distances (ends p) (ends_mirrored p o) low high m first last on in
      unequal n (r m)
      (rw (here, e, high_digit m on, low_digit m on, high_digit a l, low_digit a l, ends_last p o) at there)
      (rw (here, e, high_digit m on, low_digit m on, high_digit a l, low_digit a l, ends_last p o) at back)
