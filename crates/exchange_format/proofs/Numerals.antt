-- What is written in decimal is read back; its bytes are digits. Assumes nothing.
use mathlib.Core.Path.{◌≡◌, refl, sym, ap, ◌∙◌}
use mathlib.Core.Bool.{Bool, true, false}
use mathlib.Core.List.{List, [], ◌∷◌, ◌++◌}
use mathlib.Core.Option.{some}
use Prim.Native.Nat.{ℕ, zero, suc, ◌+◌, ◌-◌, ◌*◌, ◌/◌, ◌%◌, ◌^◌, ◌<◌, ◌≤◌}
use native.Mathlib.Nat.{pow-suc, pow-zero, div-lt_iff_lt-mul, div-add-mod'}
use native.Mathlib.Omega.{arith}
use lib.Dec.{ltb, eqb}
use borrow.Author.Tests.{le-leb, eq-eqb, ltb-true, eqb-true}
use Rattle.common.proofs.Cases.{by_bool, inside}
use Rattle.exchange_format.specs.Lines.{before, from, past, is_empty, all}
use Rattle.exchange_format.specs.Words.{is_digit, value_from, numeral}
use Rattle.text.specs.Text.{decimal_in, decimal}

-- TESTS OVER LISTS

module _ (f : ℕ → Bool) where
  pub all_append : (a b : List ℕ) → all f a ≡ true → all f b ≡ true → all f (a ++ b) ≡ true
  unfolding all
  all_append [] b p q = q
  all_append (x ∷ a) b p q =
      by_bool (f x)
      (λ e. rw e (all_append a b (rw e at p) q))
      (λ e. absurd (let z : false ≡ true = rw e at p in let y : ◌≡◌ {A = ℕ} 0 1 = cc in omega arith))

  pub all_first : (x : ℕ) (l : List ℕ) → all f (x ∷ l) ≡ true → f x ≡ true
  unfolding all
  all_first x l p = by_bool (f x) (λ e. e) (λ e. absurd (let z : false ≡ true = rw e at p in let y : ◌≡◌ {A = ℕ} 0 1 = cc in omega arith))

  pub all_rest : (x : ℕ) (l : List ℕ) → all f (x ∷ l) ≡ true → all f l ≡ true
  unfolding all
  all_rest x l p = rw (all_first x l p) at p

  pub all_more : (x : ℕ) (l : List ℕ) → f x ≡ true → all f l ≡ true → all f (x ∷ l) ≡ true
  unfolding all
  all_more x l p q = rw (p, q)

pub all_weaker : (f g : ℕ → Bool) → ((x : ℕ) → f x ≡ true → g x ≡ true) → (l : List ℕ) → all f l ≡ true → all g l ≡ true
unfolding all
all_weaker f g h [] p = refl
all_weaker f g h (x ∷ l) p = rw (h x (all_first f x l p)) (all_weaker f g h l (all_rest f x l p))

-- DIGITS

eqb_same : (b : ℕ) → eqb b b ≡ true
eqb_same b = eq-eqb b b refl

digit_not : (b x : ℕ) → is_digit b ≡ false → is_digit x ≡ true → eqb x b ≡ false
digit_not b x p q =
    by_bool (eqb x b)
    (λ e. absurd (let z : is_digit b ≡ true = rw (eqb-true x b e) at q in
    let w : true ≡ false = sym z ∙ p in
    let y : ◌≡◌ {A = ℕ} 0 1 = cc in
    omega arith))
    (λ e. e)

decimal_in_digits : (k n : ℕ) → all is_digit (decimal_in k n) ≡ true
unfolding decimal_in all
decimal_in_digits zero n = refl
decimal_in_digits (suc k) n =
    by_bool (ltb n 10)
    (λ e. rw (e, inside 48 57 (48 + n) (omega arith) (omega (arith, ltb-true n 10 e))))
    (λ e. rw e (all_append is_digit (decimal_in k (n / 10)) ((48 + n % 10) ∷ []) (decimal_in_digits k (n / 10))
    (rw (inside 48 57 (48 + n % 10) (omega arith) (omega arith)))))

pub decimal_digits : (n : ℕ) → all is_digit (decimal n) ≡ true
unfolding decimal
decimal_digits n = decimal_in_digits 20 n

append_some : (a : List ℕ) (x : ℕ) → is_empty (a ++ x ∷ []) ≡ false
append_some [] x = refl
append_some (y ∷ a) x = refl

pub decimal_some : (n : ℕ) → is_empty (decimal n) ≡ false
unfolding decimal decimal_in
decimal_some n = by_bool (ltb n 10) (λ e. rw e) (λ e. rw e (append_some (decimal_in 19 (n / 10)) (48 + n % 10)))

value_append : (m : ℕ) (a : List ℕ) (d : ℕ) → value_from m (a ++ d ∷ []) ≡ value_from m a * 10 + (d - 48)
unfolding value_from
value_append m [] d = refl
value_append m (x ∷ a) d = value_append (m * 10 + (x - 48)) a d

decimal_in_value : (k n : ℕ) → n < 10 ^ k → value_from 0 (decimal_in k n) ≡ n
unfolding decimal_in value_from
decimal_in_value zero n h = let z : n < 1 = rw pow-zero at h in omega arith
decimal_in_value (suc k) n h =
    let ten : 0 < 10 = omega arith in
    let less : n / 10 < 10 ^ k = (div-lt_iff_lt-mul ten).1 (rw pow-suc at h) in
    by_bool (ltb n 10)
    (λ e. rw e (omega arith))
    (λ e. rw (e, value_append 0 (decimal_in k (n / 10)) (48 + n % 10), decimal_in_value k (n / 10) less) (omega (arith, div-add-mod' n 10)))

pub numeral_decimal : (most n : ℕ) → n ≤ most → n < 10 ^ 20 → numeral most (decimal n) ≡ some n
unfolding numeral
numeral_decimal most n h l =
    let v : value_from 0 (decimal n) ≡ n = unfold decimal in decimal_in_value 20 n l in
    rw (decimal_some n, decimal_digits n, v, le-leb n most h)

-- A WORD OF DIGITS

module _ (b : ℕ) (n : is_digit b ≡ false) where
  pub before_digits : (l r : List ℕ) → all is_digit l ≡ true → before b (l ++ (b ∷ r)) ≡ l
  unfolding before
  before_digits [] r p = rw (eqb_same b)
  before_digits (x ∷ l) r p = rw (digit_not b x n (all_first is_digit x l p))
      (ap (λ (t : List ℕ). x ∷ t) (before_digits l r (all_rest is_digit x l p)))

  pub from_digits : (l r : List ℕ) → all is_digit l ≡ true → from b (l ++ (b ∷ r)) ≡ b ∷ r
  unfolding from
  from_digits [] r p = rw (eqb_same b)
  from_digits (x ∷ l) r p = rw (digit_not b x n (all_first is_digit x l p)) (from_digits l r (all_rest is_digit x l p))

  pub past_digits : (l : List ℕ) → all is_digit l ≡ true → past b (b ∷ l) ≡ l
  unfolding past
  past_digits l p = rw (eqb_same b) (go l p)
    where
      go : (l : List ℕ) → all is_digit l ≡ true → past b l ≡ l
      go [] p = refl
      go (x ∷ l) p = rw (digit_not b x n (all_first is_digit x l p))
