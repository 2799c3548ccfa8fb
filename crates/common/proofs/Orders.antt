-- The order of floats: below is transitive; and of two floats, one below the other, any third that is no NaN is above the one or below
-- the other; and of two finite floats, one that is not below the other is at least that. Infinities and both zeros are included. Assumes
-- nothing.
use mathlib.Core.Path.{◌≡◌, refl, sym, ◌∙◌}
use mathlib.Core.Bool.{Bool, true, false, ◌||◌, true≢false}
use Prim.Native.Nat.{ℕ, ◌+◌, ◌*◌, ◌<◌}
use native.Mathlib.Nat.{zero-mul, mul_right_comm, mul-lt-mul_of_pos_right, mul-le-mul_right, add-mul}
use native.Mathlib.Omega.{arith}
use lib.Dec.{ltb}
use lib.IntN.{ℤ}
use lib.Ieee.{Float, nan, inf, fin, up, down, below, level, lt, eq, le, is_nan}
use lib.Ieee.Fits.{down_pos}
use lib.Ieee.Scale.{finite}
use borrow.Author.Tests.{ltb-true, ltb-false, lt-ltb, le-ltb, eq-eqb}
use Rattle.common.proofs.Cases.{by_lt}

never : {A : Type 0} → true ≡ false → A
never e = absurd (true≢false e)

-- NUMBERS WITH SIGNS

ltb_scale : (a b k : ℕ) → 0 < k → ltb a b ≡ ltb (a * k) (b * k)
ltb_scale a b k h =
    by_lt a b
    (λ l e. e ∙ sym (lt-ltb (a * k) (b * k) (mul-lt-mul_of_pos_right l h)))
    (λ l e. e ∙ sym (le-ltb (a * k) (b * k) (mul-le-mul_right k l)))

below_scale : (s t : Bool) (a b k : ℕ) → 0 < k → below s a t b ≡ below s (a * k) t (b * k)
below_scale false false a b k h = ltb_scale a b k h
below_scale false true a b k h = refl
below_scale true false a b k h = ltb_scale 0 (a + b) k h ∙ rw (zero-mul k, add-mul a b k)
below_scale true true a b k h = ltb_scale b a k h

below_trans : (s t u : Bool) (a b c : ℕ) → below s a t b ≡ true → below t b u c ≡ true → below s a u c ≡ true
below_trans false false false a b c p q = lt-ltb a c (omega (arith, ltb-true a b p, ltb-true b c q))
below_trans false false true a b c p q = never (sym q)
below_trans false true u a b c p q = never (sym p)
below_trans true false false a b c p q = lt-ltb 0 (a + c) (omega (arith, ltb-true b c q))
below_trans true false true a b c p q = never (sym q)
below_trans true true false a b c p q = lt-ltb 0 (a + c) (omega (arith, ltb-true b a p))
below_trans true true true a b c p q = lt-ltb c a (omega (arith, ltb-true b a p, ltb-true c b q))

below_split : (s t u : Bool) (a b c : ℕ) → below s a u c ≡ true → below s a t b ≡ false → below t b u c ≡ true
below_split false false false a b c p q = lt-ltb b c (omega (arith, ltb-true a c p, ltb-false a b q))
below_split false true false a b c p q = lt-ltb 0 (b + c) (omega (arith, ltb-true a c p))
below_split false t true a b c p q = never (sym p)
below_split true false false a b c p q = lt-ltb b c (omega (arith, ltb-true 0 (a + c) p, ltb-false 0 (a + b) q))
below_split true true false a b c p q = lt-ltb 0 (b + c) (omega (arith, ltb-true 0 (a + c) p, ltb-false b a q))
below_split true false true a b c p q = absurd (omega (arith, ltb-true c a p, ltb-false 0 (a + b) q))
below_split true true true a b c p q = lt-ltb c b (omega (arith, ltb-true c a p, ltb-false b a q))

-- THREE FINITE FLOATS, as whole numbers with signs

module _ (s t u : Bool) (m n l : ℕ) (e d g : ℤ) where
  abbrev a : ℕ
  a = m * up e * down d * down g

  abbrev b : ℕ
  b = n * up d * down e * down g

  abbrev c : ℕ
  c = l * up g * down e * down d

  first : lt (fin s m e) (fin t n d) ≡ below s a t b
  unfolding lt
  first = below_scale s t (m * up e * down d) (n * up d * down e) (down g) (down_pos g)

  second : lt (fin t n d) (fin u l g) ≡ below t b u c
  unfolding lt
  second =
      below_scale t u (n * up d * down g) (l * up g * down d) (down e) (down_pos e)
      ∙ rw (mul_right_comm (n * up d) (down g) (down e), mul_right_comm (l * up g) (down d) (down e))

  both : lt (fin s m e) (fin u l g) ≡ below s a u c
  unfolding lt
  both =
      below_scale s u (m * up e * down g) (l * up g * down e) (down d) (down_pos d) ∙ rw (mul_right_comm (m * up e) (down g) (down d))

-- THE LAWS

pub lt_trans : (x y z : Float) → lt x y ≡ true → lt y z ≡ true → lt x z ≡ true
unfolding lt
lt_trans nan y z p q = never (sym p)
lt_trans (inf false) nan z p q = never (sym p)
lt_trans (inf false) (inf t) z p q = never (sym p)
lt_trans (inf false) (fin t n d) z p q = never (sym p)
lt_trans (inf true) nan z p q = never (sym p)
lt_trans (inf true) (inf true) z p q = never (sym p)
lt_trans (inf true) (inf false) nan p q = never (sym q)
lt_trans (inf true) (inf false) (inf u) p q = never (sym q)
lt_trans (inf true) (inf false) (fin u l g) p q = never (sym q)
lt_trans (inf true) (fin t n d) nan p q = never (sym q)
lt_trans (inf true) (fin t n d) (inf u) p q = q
lt_trans (inf true) (fin t n d) (fin u l g) p q = refl
lt_trans (fin s m e) nan z p q = never (sym p)
lt_trans (fin s m e) (inf true) z p q = never (sym p)
lt_trans (fin s m e) (inf false) nan p q = never (sym q)
lt_trans (fin s m e) (inf false) (inf u) p q = never (sym q)
lt_trans (fin s m e) (inf false) (fin u l g) p q = never (sym q)
lt_trans (fin s m e) (fin t n d) nan p q = never (sym q)
lt_trans (fin s m e) (fin t n d) (inf u) p q = q
lt_trans (fin s m e) (fin t n d) (fin u l g) p q =
    both s t u m n l e d g
    ∙ below_trans s t u _ _ _ (sym (first s t u m n l e d g) ∙ p) (sym (second s t u m n l e d g) ∙ q)

pub lt_split : (x y z : Float) → is_nan y ≡ false → lt x z ≡ true → lt x y ≡ false → lt y z ≡ true
unfolding lt is_nan
lt_split x nan z h p q = never h
lt_split nan (inf t) z h p q = never (sym p)
lt_split nan (fin t n d) z h p q = never (sym p)
lt_split (inf false) (inf t) nan h p q = never (sym p)
lt_split (inf false) (inf t) (inf u) h p q = never (sym p)
lt_split (inf false) (inf t) (fin u l g) h p q = never (sym p)
lt_split (inf false) (fin t n d) nan h p q = never (sym p)
lt_split (inf false) (fin t n d) (inf u) h p q = never (sym p)
lt_split (inf false) (fin t n d) (fin u l g) h p q = never (sym p)
lt_split (inf true) (inf true) z h p q = p
lt_split (inf true) (inf false) z h p q = never q
lt_split (inf true) (fin t n d) z h p q = never q
lt_split (fin s m e) (inf false) z h p q = never q
lt_split (fin s m e) (inf true) nan h p q = never (sym p)
lt_split (fin s m e) (inf true) (inf u) h p q = p
lt_split (fin s m e) (inf true) (fin u l g) h p q = refl
lt_split (fin s m e) (fin t n d) nan h p q = never (sym p)
lt_split (fin s m e) (fin t n d) (inf u) h p q = p
lt_split (fin s m e) (fin t n d) (fin u l g) h p q =
    second s t u m n l e d g
    ∙ below_split s t u _ _ _ (sym (both s t u m n l e d g) ∙ p) (sym (first s t u m n l e d g) ∙ q)

-- nothing is below itself
pub lt_self : (x : Float) → lt x x ≡ false
unfolding lt
lt_self nan = refl
lt_self (inf true) = refl
lt_self (inf false) = refl
lt_self (fin true m e) = le-ltb (m * up e * down e) (m * up e * down e) (omega arith)
lt_self (fin false m e) = le-ltb (m * up e * down e) (m * up e * down e) (omega arith)

-- NOT BELOW is at least

either : (t : Bool) → (t || true) ≡ true
either true = refl
either false = refl

not_below : (s t : Bool) (a b : ℕ) → below s a t b ≡ false → (below t b s a || level t b s a) ≡ true
not_below false false a b h =
    by_lt b a (λ l e. rw e) (λ l e. let same : b ≡ a = omega (arith, ltb-false a b h) in rw (eq-eqb b a same) (either (ltb b a)))
not_below false true a b h =
    by_lt 0 (b + a) (λ l e. rw e)
    (λ l e. let b₀ : b ≡ 0 = omega arith in let a₀ : a ≡ 0 = omega arith in rw (b₀, a₀))
not_below true false a b h =
    let none = ltb-false 0 (a + b) h in
    let b₀ : b ≡ 0 = omega (arith, none) in
    let a₀ : a ≡ 0 = omega (arith, none) in
    rw (b₀, a₀)
not_below true true a b h =
    by_lt a b (λ l e. rw e) (λ l e. let same : b ≡ a = omega (arith, ltb-false b a h) in rw (eq-eqb b a same) (either (ltb a b)))

pub at_least : (x y : Float) → finite x ≡ true → finite y ≡ true → lt x y ≡ false → le y x ≡ true
unfolding lt le eq
at_least nan y h k e = never (sym h)
at_least (inf s) y h k e = never (sym h)
at_least (fin s m e) nan h k l = never (sym k)
at_least (fin s m e) (inf t) h k l = never (sym k)
at_least (fin s m e) (fin t n d) h k l = not_below s t (m * up e * down d) (n * up d * down e) l
