-- The recurrences over polynomials with whole coefficients give the derivatives, and over whole numbers the values of these polynomials.
-- Assumes nothing.
use mathlib.Core.Path.{◌≡◌, refl, sym, ap, ap₂, ◌∙◌, fun_ext}
use mathlib.Core.List.{[], ◌∷◌}
use Prim.Native.Nat.{ℕ, zero, suc, ◌<◌}
use native.Mathlib.Omega.{arith}
use lib.IntN.{ℤ, pos, negsuc, neg_ℤ, ◌+ℤ◌, ◌-ℤ◌, ◌*ℤ◌, pow, one, +ℤ_assoc, +ℤ_comm, +ℤ_idl, +ℤ_idr, *ℤ-zero, *ℤ-one, zero-*ℤ, *ℤ_comm}
use lib.IntN.{suc_ℤ-*ℤ, neg_ℤ-+ℤ}
use Rattle.common.specs.Lists.{tabulate}
use Rattle.recurrences.specs.Recurrence.{Numbers, chebyshev, derived, chebyshev', chebyshev''}
use Rattle.recurrences.specs.Whole.{Polynomial, constant, scaled, raised, derivative, value, polynomials, wholes, Right}
use Rattle.recurrences.proofs.Integers.{middle, times_sum, times_difference, sum_times, difference_times, times_product, swapped}

abbrev P : Numbers Polynomial
P = polynomials

-- DERIVATIVES of sums, differences and products

module _ (c d : Polynomial) (k : ℕ) where
  sum_rule : derivative (P.plus c d) k ≡ derivative c k +ℤ derivative d k
  sum_rule = times_sum (pos (suc k)) (c (suc k)) (d (suc k))

  difference_rule : derivative (P.minus c d) k ≡ derivative c k -ℤ derivative d k
  difference_rule = times_difference (pos (suc k)) (c (suc k)) (d (suc k))

scaled_rule : (a : ℤ) (c : Polynomial) (k : ℕ) → derivative (scaled a c) k ≡ a *ℤ derivative c k
scaled_rule a c k = swapped (pos (suc k)) a (c (suc k))

-- of x times c it is c, and x times the derivative of c
raised_rule : (c : Polynomial) (k : ℕ) → derivative (raised c) k ≡ c k +ℤ raised (derivative c) k
raised_rule c zero = suc_ℤ-*ℤ (pos 0) (c 0) ∙ +ℤ_comm (pos 0 *ℤ c 0) (c 0) ∙ ap (λ (t : ℤ). c 0 +ℤ t) (zero-*ℤ (c 0))
raised_rule c (suc k) = suc_ℤ-*ℤ (pos (suc k)) (c (suc k)) ∙ +ℤ_comm (pos (suc k) *ℤ c (suc k)) (c (suc k))

by2x_rule : (c : Polynomial) (k : ℕ) → derivative (P.by2x c) k ≡ pos 2 *ℤ c k +ℤ pos 2 *ℤ raised (derivative c) k
by2x_rule c k =
    scaled_rule (pos 2) (raised c) k ∙ ap (λ (t : ℤ). pos 2 *ℤ t) (raised_rule c k) ∙ times_sum (pos 2) (c k) (raised (derivative c) k)

-- T' AND T''

-- a step of each recurrence
first_step : (t1 t2 d1 d2 : Polynomial) → d1 ≡ derivative t1 → d2 ≡ derivative t2 →
    P.minus (P.plus (P.by2 t1) (P.by2x d1)) d2 ≡ derivative (P.minus (P.by2x t1) t2)
first_step t1 t2 d1 d2 e1 e2 = rw (e1, e2) (fun_ext (λ k. sym (difference_rule (P.by2x t1) t2 k ∙ rw (by2x_rule t1 k))))

-- 2 a + (2 a + b) = 4 a + b
twice_two : (a b : ℤ) → pos 2 *ℤ a +ℤ (pos 2 *ℤ a +ℤ b) ≡ pos 4 *ℤ a +ℤ b
twice_two a b = sym (+ℤ_assoc (pos 2 *ℤ a) (pos 2 *ℤ a) b) ∙ ap (λ (t : ℤ). t +ℤ b) (sym (sum_times (pos 2) (pos 2) a))

second_step : (t1 d1 d2 e1 e2 : Polynomial) → d1 ≡ derivative t1 → e1 ≡ derivative d1 → e2 ≡ derivative d2 →
    P.minus (P.plus (P.by4 d1) (P.by2x e1)) e2 ≡ derivative (P.minus (P.plus (P.by2 t1) (P.by2x d1)) d2)
second_step t1 d1 d2 e1 e2 h g1 g2 =
    rw (g1, g2)
    (fun_ext (λ k. sym
    (difference_rule (P.plus (P.by2 t1) (P.by2x d1)) d2 k
    ∙ ap (λ (t : ℤ). t -ℤ derivative d2 k)
    (sum_rule (P.by2 t1) (P.by2x d1) k
    ∙ ap₂ ◌+ℤ◌ (scaled_rule (pos 2) t1 k ∙ ap (λ (c : Polynomial). pos 2 *ℤ c k) (sym h)) (by2x_rule d1 k)
    ∙ twice_two (d1 k) (pos 2 *ℤ raised (derivative d1) k)))))

first : (j : ℕ) → chebyshev' P j ≡ derivative (chebyshev P j)
unfolding chebyshev derived
first zero = fun_ext (λ k. sym (*ℤ-zero (pos (suc k))))
first (suc zero) = fun_ext unit_rule
  where
    unit_rule : (k : ℕ) → constant (pos 1) k ≡ pos (suc k) *ℤ constant (pos 1) k
    unit_rule zero = refl
    unit_rule (suc k) = sym (*ℤ-zero (pos (suc (suc k))))
first (suc (suc j)) = first_step (chebyshev P (suc j)) (chebyshev P j) (chebyshev' P (suc j)) (chebyshev' P j) (first (suc j)) (first j)

second : (j : ℕ) → chebyshev'' P j ≡ derivative (chebyshev' P j)
unfolding derived
second zero = fun_ext (λ k. sym (*ℤ-zero (pos (suc k))))
second (suc zero) = fun_ext unit_flat
  where
    unit_flat : (k : ℕ) → pos 0 ≡ pos (suc k) *ℤ constant (pos 1) (suc k)
    unit_flat k = sym (*ℤ-zero (pos (suc k)))
second (suc (suc j)) =
    second_step (chebyshev P (suc j)) (chebyshev' P (suc j)) (chebyshev' P j) (chebyshev'' P (suc j)) (chebyshev'' P j) (first (suc j))
    (second (suc j)) (second j)

-- VALUES of sums, differences and products

module _ (c d : Polynomial) (x : ℤ) where
  value_sum : (n : ℕ) → value n (P.plus c d) x ≡ value n c x +ℤ value n d x
  unfolding value
  value_sum zero = refl
  value_sum (suc n) =
      rw (value_sum n, sum_times (c n) (d n) (pow x n)) (middle (value n c x) (value n d x) (c n *ℤ pow x n) (d n *ℤ pow x n))

  value_difference : (n : ℕ) → value n (P.minus c d) x ≡ value n c x -ℤ value n d x
  unfolding value
  value_difference zero = refl
  value_difference (suc n) =
      rw (value_difference n, difference_times (c n) (d n) (pow x n), neg_ℤ-+ℤ (value n d x) (d n *ℤ pow x n))
      (middle (value n c x) (neg_ℤ (value n d x)) (c n *ℤ pow x n) (neg_ℤ (d n *ℤ pow x n)))

module _ (c : Polynomial) (x : ℤ) where
  value_scaled : (a : ℤ) (n : ℕ) → value n (scaled a c) x ≡ a *ℤ value n c x
  unfolding value
  value_scaled a zero = sym (*ℤ-zero a)
  value_scaled a (suc n) = rw (value_scaled a n, times_product a (c n) (pow x n)) (sym (times_sum a (value n c x) (c n *ℤ pow x n)))

  value_raised : (n : ℕ) → value (suc n) (raised c) x ≡ x *ℤ value n c x
  unfolding value pow one
  value_raised zero = sym (*ℤ-zero x)
  value_raised (suc n) =
      rw (value_raised n, *ℤ_comm (pow x n) x, swapped (c n) x (pow x n)) (sym (times_sum x (value n c x) (c n *ℤ pow x n)))

value_by2x : (c : Polynomial) (x : ℤ) (n : ℕ) → value (suc n) (P.by2x c) x ≡ (wholes x).by2x (value n c x)
value_by2x c x n =
    value_scaled (raised c) x (pos 2) (suc n) ∙ ap (λ (t : ℤ). pos 2 *ℤ t) (value_raised c x n) ∙ sym (times_product (pos 2) x
    (value n c x))

value_nought : (x : ℤ) (n : ℕ) → value n P.nought x ≡ pos 0
unfolding value
value_nought x zero = refl
value_nought x (suc n) = rw (value_nought x n, zero-*ℤ (pow x n))

value_constant : (a x : ℤ) (n : ℕ) → value (suc n) (constant a) x ≡ a
unfolding value pow
value_constant a x zero = +ℤ_idl (a *ℤ one) ∙ *ℤ-one a
value_constant a x (suc n) = rw (value_constant a x n, zero-*ℤ (pow x n *ℤ x)) (+ℤ_idr a)

-- BY THE RECURRENCES: x stands for a whole number

module _ (x : ℤ) where
  values : (j n : ℕ) → j < n → value n (chebyshev P j) x ≡ chebyshev (wholes x) j
  unfolding chebyshev one
  values zero zero h = absurd (omega arith)
  values zero (suc n) h = value_constant (pos 1) x n
  values (suc zero) zero h = absurd (omega arith)
  values (suc zero) (suc zero) h = absurd (omega arith)
  values (suc zero) (suc (suc n)) h =
      value_raised (constant (pos 1)) x (suc n) ∙ ap (λ (t : ℤ). x *ℤ t) (value_constant (pos 1) x n) ∙ *ℤ-one x
  values (suc (suc j)) zero h = absurd (omega arith)
  values (suc (suc j)) (suc n) h =
      value_difference (P.by2x (chebyshev P (suc j))) (chebyshev P j) x (suc n)
      ∙ ap₂ ◌-ℤ◌ (value_by2x (chebyshev P (suc j)) x n ∙ ap (wholes x).by2x (values (suc j) n (omega arith))) (values j (suc n)
      (omega arith))

  -- a derivative of a sequence S whose values are R
  module _ (a : ℤ) (second : Polynomial) (b : ℤ) (S : ℕ → Polynomial) (R : ℕ → ℤ) (start : (n : ℕ) → value (suc n) second x ≡ b)
      (below : (j n : ℕ) → j < n → value n (S j) x ≡ R j) where
    derived_values : (j n : ℕ) → j < n → value n (derived P (scaled a) second S j) x ≡ derived (wholes x) (λ t. a *ℤ t) b R j
    unfolding derived
    derived_values zero n h = value_nought x n
    derived_values (suc zero) zero h = absurd (omega arith)
    derived_values (suc zero) (suc n) h = start n
    derived_values (suc (suc j)) zero h = absurd (omega arith)
    derived_values (suc (suc j)) (suc n) h =
        let D = derived P (scaled a) second S in
        value_difference (P.plus (scaled a (S (suc j))) (P.by2x (D (suc j)))) (D j) x (suc n)
        ∙ ap₂ ◌-ℤ◌
        (value_sum (scaled a (S (suc j))) (P.by2x (D (suc j))) x (suc n)
        ∙ ap₂ ◌+ℤ◌ (value_scaled (S (suc j)) x a (suc n) ∙ ap (λ (t : ℤ). a *ℤ t) (below (suc j) (suc n) (omega arith)))
        (value_by2x (D (suc j)) x n ∙ ap (wholes x).by2x (derived_values (suc j) n (omega arith))))
        (derived_values j (suc n) (omega arith))

  slopes : (j n : ℕ) → j < n → value n (chebyshev' P j) x ≡ chebyshev' (wholes x) j
  slopes = derived_values (pos 2) P.unit (pos 1) (chebyshev P) (chebyshev (wholes x)) (value_constant (pos 1) x) values

  curvatures : (j n : ℕ) → j < n → value n (chebyshev'' P j) x ≡ chebyshev'' (wholes x) j
  curvatures =
      derived_values (pos 4) P.nought (pos 0) (chebyshev' P) (chebyshev' (wholes x)) (λ n. value_nought x (suc n)) slopes

-- NO TERM past x ^ j
ends : (j k : ℕ) → j < k → chebyshev P j k ≡ pos 0
unfolding chebyshev
ends zero zero h = absurd (omega arith)
ends zero (suc k) h = refl
ends (suc zero) zero h = absurd (omega arith)
ends (suc zero) (suc zero) h = absurd (omega arith)
ends (suc zero) (suc (suc k)) h = refl
ends (suc (suc j)) zero h = absurd (omega arith)
ends (suc (suc j)) (suc k) h = rw (ends (suc j) k (omega arith), ends j (suc k) (omega arith))

-- T_4 is 8 x^4 - 8 x^2 + 1, and its derivatives are 32 x^3 - 16 x and 96 x^2 - 16
fourth : tabulate 5 (chebyshev P 4) ≡ pos 1 ∷ pos 0 ∷ negsuc 7 ∷ pos 0 ∷ pos 8 ∷ []
unfolding chebyshev
fourth = refl

fourth' : tabulate 5 (chebyshev' P 4) ≡ pos 0 ∷ negsuc 15 ∷ pos 0 ∷ pos 32 ∷ pos 0 ∷ []
unfolding chebyshev derived
fourth' = refl

fourth'' : tabulate 5 (chebyshev'' P 4) ≡ negsuc 15 ∷ pos 0 ∷ pos 96 ∷ pos 0 ∷ pos 0 ∷ []
unfolding chebyshev derived
fourth'' = refl

-- THE RULE for every j
pub chebyshev_right : (j : ℕ) → Right j
chebyshev_right j =
    record {
      first = λ k. ap (λ (c : Polynomial). c k) (first j);
      second = λ k. ap (λ (c : Polynomial). c k) (second j);
      ends = ends j;
      values = λ n h x. values x j n h;
      slopes = λ n h x. slopes x j n h;
      curvatures = λ n h x. curvatures x j n h;
    }
