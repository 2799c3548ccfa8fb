-- A vector held as digits, three more than its entries, is the vector. Assumes nothing.
use mathlib.Core.Path.{◌≡◌, refl, sym, ap, ◌∙◌}
use mathlib.Core.Bool.{Bool, true, false, ◌&&◌, and-eq-true_iff, cond}
use mathlib.Core.Option.{none, some}
use Prim.Native.Nat.{ℕ, zero, suc, ◌+◌, ◌-◌, ◌*◌, ◌<◌, ◌≤◌}
use native.Mathlib.Nat.{pow-le-pow_right}
use native.Mathlib.Omega.{arith}
use lib.Dec.{leb, ltb, eqb}
use lib.IntN.{ℤ, pos, negsuc, nat_abs, ◌+ℤ◌}
use mir.Syntax.{w32}
use mir.Val.{SFits, of_z, to_z}
use mir.Facts.{to_z-of_z}
use borrow.Author.Tests.{le-leb, lt-leb, leb-true, ltb-true, eqb-true, lt-ltb}
use Rattle.common.specs.Tests.{each}
use Rattle.common.specs.Digits.{from_digits}
use Rattle.common.specs.Refusals.{is_dimension}
use Rattle.common.proofs.Answers.{answer_refused}
use Rattle.common.proofs.Limits.{passed}
use Rattle.common.proofs.Cases.{by_lt, fun_ext, inside_low, inside_high}
use Rattle.common.proofs.Tests.{each_at}
use Rattle.common.proofs.Digits.{from_digits_cong, from_digits_below}
use Rattle.vectors.proofs.Sizes.{at_three}
use Rattle.vectors.specs.declared.Vector.{Vector}
use Rattle.common.specs.declared.Three.{Three}
use Rattle.vectors.specs.declared.Known.{Known}
use Rattle.vectors.specs.declared.Turn.{Turn}
use Rattle.common.specs.Factorials.{factorial}
use Rattle.vectors.specs.Order.{axis_order}
use Rattle.vectors.specs.Vectors.{sizes, sign, is_negative, index, case, at_most, near, reference_of}
use Rattle.vectors.specs.LookUps.{entries, look_up_number, known_of, look_up, turn_of, turning_call}
use Rattle.common.specs.Threes.{three, Small}
use Rattle.vectors.specs.Working.{shifted, unshifted, size_of, sign_of, vector_of, each_of, digits_of, digits_number, are_entries, are_zeros}
use Rattle.vectors.specs.Working.{Past}

-- ENTRIES AND THEIR BITS

pub of_bits : (e : ℤ) (k : ℕ) → SFits w32 e → of_z w32 e ≡ k → e ≡ to_z w32 k
of_bits e k f h = sym (to_z-of_z f) ∙ ap (to_z w32) h

-- no pattern fits: the entry is outside -3 to 3
pub shifted_rest : (e : ℤ) →
    (of_z w32 e ≡ 4294967293 → ⊥) → (of_z w32 e ≡ 4294967294 → ⊥) → (of_z w32 e ≡ 4294967295 → ⊥) →
    (of_z w32 e ≡ 0 → ⊥) → (of_z w32 e ≡ 1 → ⊥) → (of_z w32 e ≡ 2 → ⊥) → (of_z w32 e ≡ 3 → ⊥) → 7 ≡ shifted e
unfolding shifted
shifted_rest (pos zero) a b c z x y w = absurd (z refl)
shifted_rest (pos (suc zero)) a b c z x y w = absurd (x refl)
shifted_rest (pos (suc (suc zero))) a b c z x y w = absurd (y refl)
shifted_rest (pos (suc (suc (suc zero)))) a b c z x y w = absurd (w refl)
shifted_rest (pos (suc (suc (suc (suc n))))) a b c z x y w = rw (lt-leb (suc (suc (suc (suc n)))) 3 (omega arith))
shifted_rest (negsuc zero) a b c z x y w = absurd (c refl)
shifted_rest (negsuc (suc zero)) a b c z x y w = absurd (b refl)
shifted_rest (negsuc (suc (suc zero))) a b c z x y w = absurd (a refl)
shifted_rest (negsuc (suc (suc (suc n)))) a b c z x y w = rw (lt-leb (suc (suc (suc (suc n)))) 3 (omega arith))

-- DIGITS OF ENTRIES

-- an entry of size at most 3 is one of seven
pub by_entry : (P : ℤ → Type 0) → P (negsuc 2) → P (negsuc 1) → P (negsuc 0) → P (pos 0) → P (pos 1) → P (pos 2) → P (pos 3) →
    (e : ℤ) → nat_abs e ≤ 3 → P e
by_entry P a b c z x y w (pos zero) l = z
by_entry P a b c z x y w (pos (suc zero)) l = x
by_entry P a b c z x y w (pos (suc (suc zero))) l = y
by_entry P a b c z x y w (pos (suc (suc (suc zero)))) l = w
by_entry P a b c z x y w (pos (suc (suc (suc (suc n))))) l = absurd (omega arith)
by_entry P a b c z x y w (negsuc zero) l = c
by_entry P a b c z x y w (negsuc (suc zero)) l = b
by_entry P a b c z x y w (negsuc (suc (suc zero))) l = a
by_entry P a b c z x y w (negsuc (suc (suc (suc n)))) l = absurd (omega arith)

unshift : (e : ℤ) → nat_abs e ≤ 3 → unshifted (shifted e) ≡ e
unfolding shifted
unshift = by_entry (λ e. unshifted (shifted e) ≡ e) refl refl refl refl refl refl refl

shifted_large : (e : ℤ) → 3 < nat_abs e → shifted e ≡ 7
unfolding shifted
shifted_large e h = rw (lt-leb (nat_abs e) 3 h)

-- what a digit tells of its entry, in range or not, and whether it is 0
module _ (e : ℤ) where
  pub shifted_below : shifted e < 8
  unfolding shifted
  shifted_below =
      by_lt 3 (nat_abs e) (λ h _. rw (shifted_large e h) (omega arith))
      (λ h _. by_entry (λ e. shifted e < 8) (omega arith) (omega arith) (omega arith) (omega arith) (omega arith) (omega arith)
      (omega arith) e h)

  in_range : ltb (shifted e) 7 ≡ leb (nat_abs e) 3
  unfolding shifted
  in_range =
      by_lt 3 (nat_abs e) (λ h _. rw (shifted_large e h, lt-leb (nat_abs e) 3 h))
      (λ h _. by_entry (λ e. ltb (shifted e) 7 ≡ leb (nat_abs e) 3) refl refl refl refl refl refl refl e h)

  is_zero : eqb (shifted e) 3 ≡ leb (nat_abs e) 0
  unfolding shifted
  is_zero =
      by_lt 3 (nat_abs e) (λ h _. rw (shifted_large e h, lt-leb (nat_abs e) 0 (omega arith)))
      (λ h _. by_entry (λ e. eqb (shifted e) 3 ≡ leb (nat_abs e) 0) refl refl refl refl refl refl refl e h)

  whole : shifted e < 7 → unshifted (shifted e) ≡ e
  whole l = unshift e (leb-true _ _ (sym in_range ∙ lt-ltb _ _ l))

-- a digit's entry, size and sign: one test over the seven digits
told : ℕ → Bool
told d = eqb (nat_abs (unshifted d)) (size_of d) && (eqb (sign (unshifted d)) (sign_of d) && eqb (nat_abs (unshifted d +ℤ pos 3)) d)

module _ (d : ℕ) (l : d < 7) where
  all_told : told d ≡ true
  unfolding each told
  all_told = each_at 7 told refl d l

  size_told_lem : nat_abs (unshifted d) ≡ size_of d
  unfolding told
  size_told_lem = eqb-true _ _ ((and-eq-true_iff (eqb (nat_abs (unshifted d)) (size_of d)) _).0 all_told).0

  rest_told : eqb (sign (unshifted d)) (sign_of d) && eqb (nat_abs (unshifted d +ℤ pos 3)) d ≡ true
  unfolding told
  rest_told = ((and-eq-true_iff (eqb (nat_abs (unshifted d)) (size_of d)) _).0 all_told).1

  sign_told : sign (unshifted d) ≡ sign_of d
  sign_told = eqb-true _ _ ((and-eq-true_iff (eqb (sign (unshifted d)) (sign_of d)) _).0 rest_told).0

  index_told : nat_abs (unshifted d +ℤ pos 3) ≡ d
  index_told = eqb-true _ _ ((and-eq-true_iff (eqb (sign (unshifted d)) (sign_of d)) _).0 rest_told).1

pub negative_told : (d : ℕ) → d < 7 → ltb d 3 ≡ is_negative (unshifted d)
negative_told zero l = refl
negative_told (suc zero) l = refl
negative_told (suc (suc zero)) l = refl
negative_told (suc (suc (suc zero))) l = refl
negative_told (suc (suc (suc (suc zero)))) l = refl
negative_told (suc (suc (suc (suc (suc zero))))) l = refl
negative_told (suc (suc (suc (suc (suc (suc zero)))))) l = refl
negative_told (suc (suc (suc (suc (suc (suc (suc d))))))) l = absurd (omega arith)

-- A VECTOR OF THREE DIGITS

module _ (D : ℕ) (d : Three) (ok : Small D 7 d) where
  pub sizes_held : sizes (vector_of d) ≡ three (each_of size_of d)
  sizes_held = fun_ext _ _ held
    where
      held : (a : ℕ) → sizes (vector_of d) a ≡ three (each_of size_of d) a
      held zero = size_told_lem d.0 ok.first
      held (suc zero) = size_told_lem d.1 ok.second
      held (suc (suc zero)) = size_told_lem d.2 ok.third
      held (suc (suc (suc a))) = refl

  signs_held : from_digits 2 D (λ a. sign (vector_of d a)) ≡ from_digits 2 D (three (each_of sign_of d))
  signs_held = from_digits_cong 2 D _ _ held
    where
      held : (a : ℕ) → a < D → sign (vector_of d a) ≡ three (each_of sign_of d) a
      held zero l = sign_told d.0 ok.first
      held (suc zero) l = sign_told d.1 ok.second
      held (suc (suc zero)) l = sign_told d.2 ok.third
      held (suc (suc (suc a))) l = absurd (omega (arith, ok.dimension_most))

  index_held : index D (vector_of d) ≡ from_digits 7 D (three d)
  unfolding index
  index_held = from_digits_cong 7 D _ _ held
    where
      held : (a : ℕ) → a < D → nat_abs (vector_of d a +ℤ pos 3) ≡ three d a
      held zero l = index_told d.0 ok.first
      held (suc zero) l = index_told d.1 ok.second
      held (suc (suc zero)) l = index_told d.2 ok.third
      held (suc (suc (suc a))) l = absurd (omega (arith, ok.dimension_most))

  pub sizes_small : Small D 4 (each_of size_of d)
  sizes_small =
      record {
        dimension_least = ok.dimension_least;
        dimension_most = ok.dimension_most;
        first = omega (arith, ok.first);
        second = omega (arith, ok.second);
        third = omega (arith, ok.third);
      }

  pub signs_small : Small D 7 (each_of sign_of d)
  signs_small =
      record {
        dimension_least = ok.dimension_least;
        dimension_most = ok.dimension_most;
        first = omega arith;
        second = omega arith;
        third = omega arith;
      }

  -- the sign case and the order are small
  pub signs_most : from_digits 2 D (three (each_of sign_of d)) ≤ 8
  signs_most =
      let less = from_digits_below 2 D (three (each_of sign_of d)) below in
      let few = pow-le-pow_right {n = 2} (omega arith) ok.dimension_most in
      omega arith
    where
      below : (a : ℕ) → a < D → three (each_of sign_of d) a < 2
      below zero l = omega arith
      below (suc zero) l = omega arith
      below (suc (suc zero)) l = omega arith
      below (suc (suc (suc a))) l = omega arith

  pub sizes_past : Past D 3 d → Past D 0 (each_of size_of d)
  sizes_past past = record { second = λ l. omega (arith, past.second l); third = λ l. omega (arith, past.third l) }

  -- what the program finds of its digits is the vector's entry
  pub entry_held : (i c r : ℕ) (n : Bool) → i ≡ from_digits 7 D (three d) →
      c ≡ from_digits 2 D (three (each_of sign_of d)) * factorial D + axis_order D (three (each_of size_of d)) →
      r ≡ reference_of D (three (each_of size_of d)) → n ≡ at_most 1 D (three (each_of size_of d)) →
      record { index = i; case = c; reference = r; near = n } ≡ known_of D (vector_of d)
  unfolding known_of case near reference_of
  entry_held i c r n hi hc hr hn = rw (hi, hc, hr, hn, index_held, signs_held, sizes_held)

-- THE NUMBER

-- three digits of three entries, read from their bits
pub digits_held : (v : Vector) (a b c : ℕ) → SFits w32 v.0 → SFits w32 v.1 → SFits w32 v.2 →
    a ≡ shifted (to_z w32 (of_z w32 v.0)) →
    b ≡ shifted (to_z w32 (of_z w32 v.1)) → c ≡ shifted (to_z w32 (of_z w32 v.2)) → (a, b, c) ≡ digits_of v
digits_held v a b c fx fy fz ha hb hc = rw (ha, hb, hc, to_z-of_z fx, to_z-of_z fy, to_z-of_z fz)

each_cong : (n : ℕ) (f g : ℕ → Bool) → ((a : ℕ) → a < n → f a ≡ g a) → each n f ≡ each n g
unfolding each
each_cong zero f g h = refl
each_cong (suc n) f g h = rw (each_cong n f g (λ a l. h a (omega arith)), h n (omega arith))

module _ (v : Vector) where
  range_held : (a : ℕ) → ltb (three (digits_of v) a) 7 ≡ leb (nat_abs (entries v a)) 3
  range_held zero = in_range v.0
  range_held (suc zero) = in_range v.1
  range_held (suc (suc zero)) = in_range v.2
  range_held (suc (suc (suc a))) = refl

  zero_held : (a : ℕ) → a < 3 → eqb (three (digits_of v) a) 3 ≡ leb (nat_abs (entries v a)) 0
  zero_held zero l = is_zero v.0
  zero_held (suc zero) l = is_zero v.1
  zero_held (suc (suc zero)) l = is_zero v.2
  zero_held (suc (suc (suc a))) l = absurd (omega arith)

pub number_held : (D : ℕ) (v : Vector) → digits_number D (three (digits_of v)) ≡ look_up_number D (sizes (entries v))
unfolding digits_number look_up_number at_most
number_held D v =
    rw (
      each_cong D (λ a. ltb (three (digits_of v) a) 7) (λ a. leb (nat_abs (entries v a)) 3) (λ a _. range_held v a),
      each_cong (3 - D) (λ a. eqb (three (digits_of v) (D + a)) 3) (λ a. leb (nat_abs (entries v (D + a))) 0)
          (λ a l. zero_held v (D + a) (omega arith)),
    )

-- as the program finds it: the first digits, then those past them
by_tests : (D x y z : ℕ) → ℕ
by_tests D x y z = cond (are_entries D (x, y, z)) (cond (are_zeros D (x, y, z)) 0 6) 4

number_by : (D : ℕ) (d : Three) → 1 ≤ D → D ≤ 3 → d.0 < 8 → d.1 < 8 → d.2 < 8 → by_tests D d.0 d.1 d.2 ≡ digits_number D (three d)
unfolding by_tests are_entries are_zeros digits_number each
number_by D d l m a b c =
    eqb-true _ _
    (at_three 8 (λ D x y z. eqb (by_tests D x y z) (digits_number D (three (x, y, z)))) refl D d.0 d.1 d.2 l m a b c)

module _ (D : ℕ) (d : Three) (l : 1 ≤ D) (m : D ≤ 3) (h : (d.0 < 8) × (d.1 < 8) × (d.2 < 8)) where
  pub number_entry : are_entries D d ≡ false → 4 ≡ digits_number D (three d)
  unfolding by_tests
  number_entry e = rw e at (number_by D d l m h.0 h.1 h.2)

  pub number_past : are_entries D d ≡ true → are_zeros D d ≡ false → 6 ≡ digits_number D (three d)
  unfolding by_tests
  number_past e e' = rw (e, e') at (number_by D d l m h.0 h.1 h.2)

  pub number_none : are_entries D d ≡ true → are_zeros D d ≡ true → 0 ≡ digits_number D (three d)
  unfolding by_tests
  number_none e e' = rw (e, e') at (number_by D d l m h.0 h.1 h.2)

pub number_low : (D : ℕ) (d : ℕ → ℕ) → D < 1 → 1 ≡ digits_number D d
unfolding digits_number
number_low D d l = rw (lt-leb 1 D l)

pub number_high : (D : ℕ) (d : ℕ → ℕ) → 1 ≤ D → 3 < D → 1 ≡ digits_number D d
unfolding digits_number
number_high D d o l = rw (le-leb 1 D o, lt-leb D 3 l)

-- the number is 0: the digits are those of entries, and past the dimension those of 0
module _ (D : ℕ) (d : Three) (l : 1 ≤ D) (m : D ≤ 3) (low : each D (λ a. ltb (three d a) 7) ≡ true)
    (none : each (3 - D) (λ a. eqb (three d (D + a)) 3) ≡ true) where
  low_at : (a : ℕ) → a < D → three d a < 7
  low_at a h = ltb-true _ _ (each_at D (λ a. ltb (three d a) 7) low a h)

  none_at : (a : ℕ) → a < 3 → D ≤ a → three d a ≡ 3
  none_at a h g =
      let back : D + (a - D) ≡ a = omega arith in
      rw back at (eqb-true (three d (D + (a - D))) 3 (each_at (3 - D) (λ a. eqb (three d (D + a)) 3) none (a - D) (omega arith)))

  below_at : (a : ℕ) → a < 3 → three d a < 7
  below_at a h = by_lt a D (λ g _. low_at a g) (λ g _. rw (none_at a h g) (omega arith))

  digits_taken : Small D 7 d × Past D 3 d
  digits_taken = (
    record {
      dimension_least = l;
      dimension_most = m;
      first = below_at 0 (omega arith);
      second = below_at 1 (omega arith);
      third = below_at 2 (omega arith);
    },
    record { second = λ h. none_at 1 (omega arith) (omega arith); third = λ h. none_at 2 (omega arith) (omega arith) },
  )

pub taken : (D : ℕ) (d : Three) → digits_number D (three d) ≡ 0 → Small D 7 d × Past D 3 d
unfolding digits_number
taken D d z =
    let i = passed (is_dimension D) 0 _ z in
    let b = passed (each D (λ a. ltb (three d a) 7)) 3 _ i.1 in
    digits_taken D d (inside_low 1 3 D i.0) (inside_high 1 3 D i.0) b.0
    (passed (each (3 - D) (λ a. eqb (three d (D + a)) 3)) 5 0 b.1).0

-- the digits' vector is the one that was held
pub vector_held : (D : ℕ) (v : Vector) → Small D 7 (digits_of v) → vector_of (digits_of v) ≡ entries v
vector_held D v ok = fun_ext _ _ held
  where
    held : (a : ℕ) → vector_of (digits_of v) a ≡ entries v a
    held zero = whole v.0 ok.first
    held (suc zero) = whole v.1 ok.second
    held (suc (suc zero)) = whole v.2 ok.third
    held (suc (suc (suc a))) = refl

-- how the vector turns its reference, as the program finds it from the digits
module _ (D : ℕ) (d : Three) (ok : Small D 7 d) where
  abbrev turned : (a b c : Bool) (k : ℕ) → Turn
  turned a b c k = record { first = a; second = b; third = c; order = k }

  pub turn_held : (k : ℕ) → k ≡ axis_order D (sizes (vector_of d)) →
      turned (ltb d.0 3) (ltb d.1 3) (ltb d.2 3) k ≡ turn_of D (vector_of d)
  unfolding turn_of
  turn_held k e =
      ap (λ (a : Bool). turned a (ltb d.1 3) (ltb d.2 3) k) (negative_told d.0 ok.first)
      ∙ ap (λ (b : Bool). turned (is_negative (unshifted d.0)) b (ltb d.2 3) k) (negative_told d.1 ok.second)
      ∙ ap (λ (c : Bool). turned (is_negative (unshifted d.0)) (is_negative (unshifted d.1)) c k) (negative_told d.2 ok.third)
      ∙ ap (turned (is_negative (unshifted d.0)) (is_negative (unshifted d.1)) (is_negative (unshifted d.2))) e

-- THE ANSWER

pub refused_answer : (D n : ℕ) (v : Vector) → n ≡ digits_number D (three (digits_of v)) → (n ≡ 0 → ⊥) → (n, none) ≡ look_up D v
unfolding look_up
refused_answer D n v e h = rw (← number_held D v, ← e) (answer_refused n _ h)

pub found_answer : (D : ℕ) (v : Vector) (r : Known) → digits_number D (three (digits_of v)) ≡ 0 → r ≡ known_of D (vector_of (digits_of v)) →
    (0, some r) ≡ look_up D v
unfolding look_up
found_answer D v r e h = rw (← number_held D v, e, h, vector_held D v (taken D (digits_of v) e).0)

pub refused_turning : (D n : ℕ) (v : Vector) → n ≡ digits_number D (three (digits_of v)) → (n ≡ 0 → ⊥) → (n, none) ≡ turning_call D v
unfolding turning_call
refused_turning D n v e h = rw (← number_held D v, ← e) (answer_refused n _ h)

pub found_turning : (D : ℕ) (v : Vector) (t : Turn) → digits_number D (three (digits_of v)) ≡ 0 → t ≡ turn_of D (vector_of (digits_of v)) →
    (0, some t) ≡ turning_call D v
unfolding turning_call
found_turning D v t e h = rw (← number_held D v, e, h, vector_held D v (taken D (digits_of v) e).0)
