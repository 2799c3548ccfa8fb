-- The order, the nearness and the reference that the program finds by comparing three sizes are those of the definitions: one computed
-- test over all sizes below 4. Assumes nothing.
use mathlib.Core.Path.{◌≡◌, refl, sym, ◌∙◌}
use mathlib.Core.Bool.{Bool, true, cond, ◌&&◌, not, and-eq-true_iff}
use Prim.Native.Nat.{ℕ, suc, ◌+◌, ◌-◌, ◌*◌, ◌/◌, ◌<◌, ◌≤◌, min, max}
use native.Mathlib.Nat.{mul-le-mul}
use native.Mathlib.Omega.{arith}
use lib.Dec.{ltb, eqb}
use borrow.Author.Tests.{eqb-true, not-true, lt-ltb, le-ltb}
use Rattle.common.specs.Tests.{each, count}
use Rattle.common.specs.Digits.{from_digits, digit}
use Rattle.common.proofs.Cases.{by_bool, by_lt}
use Rattle.common.proofs.Tests.{each_at}
use Rattle.common.specs.declared.Three.{Three}
use Rattle.common.specs.Factorials.{factorial}
use Rattle.vectors.specs.Order.{skip, axis, largest, axis_order, sorted}
use Rattle.vectors.specs.Vectors.{at_most, is_reference, far_reference, reference_of}
use Rattle.common.specs.Threes.{three, Small}
use Rattle.vectors.specs.Working.{swap, Past}

-- a test that passes for each dimension and each three numbers below n
abbrev pub everywhere : ℕ → (ℕ → ℕ → ℕ → ℕ → Bool) → Bool
everywhere n f = each 3 (λ d. each n (λ a. each n (λ b. each n (f (suc d) a b))))

pub at_three : (n : ℕ) (f : ℕ → ℕ → ℕ → ℕ → Bool) → everywhere n f ≡ true → (D a b c : ℕ) → 1 ≤ D → D ≤ 3 → a < n → b < n → c < n →
    f D a b c ≡ true
at_three n f e D a b c l m la lb lc =
    let one : suc (D - 1) ≡ D = omega arith in
    rw one at
    (each_at n (f (suc (D - 1)) a b)
    (each_at n (λ y. each n (f (suc (D - 1)) a y))
    (each_at n (λ x. each n (λ y. each n (f (suc (D - 1)) x y)))
    (each_at 3 (λ d. each n (λ x. each n (λ y. each n (f (suc d) x y)))) e (D - 1) (omega arith)) a la) b lb) c lc)

-- THE ORDER

-- by comparing
unfoldable pub axis_order_by : (D a b c : ℕ) → ℕ
axis_order_by D a b c =
    cond (ltb D 2) 0
    (cond (ltb D 3) (swap a b) (cond (ltb a b) (cond (ltb b c) 5 (2 + swap a c)) (cond (ltb a c) 4 (swap b c))))

pub axis_order_by_lem : (D : ℕ) (s : Three) → Small D 4 s → axis_order_by D s.0 s.1 s.2 ≡ axis_order D (three s)
unfolding axis_order_by each axis_order largest factorial skip
axis_order_by_lem D s ok =
    eqb-true _ _
    (at_three 4 (λ D a b c. eqb (axis_order_by D a b c) (axis_order D (three (a, b, c)))) refl
    D s.0 s.1 s.2 ok.dimension_least ok.dimension_most ok.first ok.second ok.third)

-- NEARNESS AND THE REFERENCE

abbrev pub most_of : (a b c : ℕ) → ℕ
most_of a b c = max (max a b) c

abbrev pub least_of : (a b c : ℕ) → ℕ
least_of a b c = min (min a b) c

abbrev pub middle_of : (a b c : ℕ) → ℕ
middle_of a b c = a + b + c - most_of a b c - least_of a b c

-- the largest and the smallest are two of the three, and the third is no larger
ends : (a b c : ℕ) → most_of a b c + least_of a b c ≤ a + b + c
ends a b c = omega arith

middles : (a b c : ℕ) → middle_of a b c ≤ most_of a b c
middles a b c = omega arith

lowest : (a b c : ℕ) → least_of a b c ≤ most_of a b c
lowest a b c = omega arith

-- what a middle size of at most 3 adds
pub triangle_most : (m : ℕ) → m ≤ 3 → m * (m + 1) ≤ 12
triangle_most m h = mul-le-mul {n₁ = m} {m₁ = m + 1} {n₂ = 3} {m₂ = 4} h (omega arith)

-- by counting the references that come before
unfoldable pub reference_by : (D large middle small : ℕ) → ℕ
reference_by D l m s =
    cond (ltb l 2) 0 (cond (ltb D 2) (l - 2) (cond (ltb D 3) ((l - 2) * 3 + m) ((l - 2) * 6 + m * (m + 1) / 2 + s)))

-- past the dimension the sizes are 0
none_past : (D b c : ℕ) → Bool
none_past D b c = cond (ltb D 2) (eqb b 0) true && cond (ltb D 3) (eqb c 0) true

right : (D a b c : ℕ) → Bool
right D a b c =
    cond (none_past D b c)
    (eqb (reference_by D (most_of a b c) (middle_of a b c) (least_of a b c)) (reference_of D (three (a, b, c)))
    && cond (ltb (most_of a b c) 2) (at_most 1 D (three (a, b, c))) (not (at_most 1 D (three (a, b, c)))))
    true

module _ (D : ℕ) (s : Three) (ok : Small D 4 s) (past : Past D 0 s) where
  past_none : none_past D s.1 s.2 ≡ true
  unfolding none_past
  past_none =
      by_lt D 2
      (λ l e. rw (e, lt-ltb D 3 (omega arith), past.second l, past.third (omega arith)))
      (λ _ e. rw e (by_lt D 3 (λ l e'. rw (e', past.third l)) (λ _ e'. rw e')))

  both : (eqb (reference_by D (most_of s.0 s.1 s.2) (middle_of s.0 s.1 s.2) (least_of s.0 s.1 s.2))
      (reference_of D (three s)) ≡ true)
      × (cond (ltb (most_of s.0 s.1 s.2) 2) (at_most 1 D (three s)) (not (at_most 1 D (three s))) ≡ true)
  unfolding right none_past reference_by reference_of each axis_order largest factorial skip axis sorted from_digits digit count is_reference
      far_reference at_most
  both =
      (and-eq-true_iff _ _).0
      (rw past_none at
      (at_three 4 right refl D s.0 s.1 s.2 ok.dimension_least ok.dimension_most ok.first ok.second ok.third))

  pub reference_by_lem : reference_by D (most_of s.0 s.1 s.2) (middle_of s.0 s.1 s.2) (least_of s.0 s.1 s.2)
      ≡ reference_of D (three s)
  reference_by_lem = eqb-true _ _ both.0

  pub near_by : ltb (most_of s.0 s.1 s.2) 2 ≡ at_most 1 D (three s)
  near_by =
      by_bool (ltb (most_of s.0 s.1 s.2) 2)
      (λ e. e ∙ sym (rw e at both.1))
      (λ e. e ∙ sym (not-true _ (rw e at both.1)))

-- each of the program's ways to it
module _ (D : ℕ) (s : Three) (ok : Small D 4 s) (past : Past D 0 s) (large : ℕ) (hl : large ≡ most_of s.0 s.1 s.2) where
  from_large : reference_by D large (middle_of s.0 s.1 s.2) (least_of s.0 s.1 s.2) ≡ reference_of D (three s)
  from_large = rw hl (reference_by_lem D s ok past)

  pub reference_near : large < 2 → 0 ≡ reference_of D (three s)
  unfolding reference_by
  reference_near h = rw (lt-ltb large 2 h) at from_large

  pub reference_one : 2 ≤ large → D < 2 → large - 2 ≡ reference_of D (three s)
  unfolding reference_by
  reference_one h l = rw (le-ltb large 2 h, lt-ltb D 2 l) at from_large

  module _ (small : ℕ) (hs : small ≡ least_of s.0 s.1 s.2) where
    pub ends_fit : large + small ≤ s.0 + s.1 + s.2
    ends_fit = rw (hl, hs) (ends s.0 s.1 s.2)

    -- each is at most 3
    pub all_most : (large ≤ 3) × (s.0 + s.1 + s.2 - large - small ≤ 3) × (small ≤ 3)
    all_most =
        let top : most_of s.0 s.1 s.2 ≤ 3 = omega (arith, ok.first, ok.second, ok.third) in
        rw (hl, hs) (top, omega (arith, middles s.0 s.1 s.2), omega (arith, lowest s.0 s.1 s.2))

    from_all : reference_by D large (s.0 + s.1 + s.2 - large - small) small ≡ reference_of D (three s)
    from_all = rw (hs, hl) (reference_by_lem D s ok past)

    pub reference_two : 2 ≤ large → 2 ≤ D → D < 3 → (large - 2) * 3 + (s.0 + s.1 + s.2 - large - small) ≡ reference_of D (three s)
    unfolding reference_by
    reference_two h g l = rw (le-ltb large 2 h, le-ltb D 2 g, lt-ltb D 3 l) at from_all

    pub reference_three : 2 ≤ large → 3 ≤ D →
        (large - 2) * 6 + (s.0 + s.1 + s.2 - large - small) * (s.0 + s.1 + s.2 - large - small + 1) / 2 + small
        ≡ reference_of D (three s)
    unfolding reference_by
    reference_three h g = rw (le-ltb large 2 h, le-ltb D 2 (omega arith), le-ltb D 3 g) at from_all
