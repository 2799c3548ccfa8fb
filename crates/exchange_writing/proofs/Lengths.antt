-- How long the text of a number is, digit by digit. Assumes nothing.
use Rattle.std.proofs.Common.{◌≡◌, ℕ, zero, suc, ◌+◌, ◌/◌, ◌%◌, ◌^◌, ◌<◌, ◌≤◌, Bool, true, false, [], ◌∷◌, ◌++◌, length, refl, ap}
use Rattle.std.proofs.Common.{div-lt_iff_lt-mul, pow-suc, arith, length-append, le-ltb, lt-ltb}
use Rattle.common.proofs.Cases.{by_lt}
use Rattle.text.specs.Text.{decimal_in, decimal}
use Rattle.text.proofs.Numbers.{decimal_length}
use Rattle.exchange_writing.specs.Working.{signed_line}

-- more places than a number has digits do not change its text
enough : (k n : ℕ) → n < 10 ^ suc k → decimal_in (suc k) n ≡ decimal_in (suc (suc k)) n
unfolding decimal_in
enough zero n h = let one : 10 ^ suc zero ≡ 10 = refl in let small : n < 10 = rw one at h in rw (lt-ltb n 10 small)
enough (suc k) n h =
    let ten : 0 < 10 = omega arith in
    let less : n / 10 < 10 ^ suc k = (div-lt_iff_lt-mul ten).1 (rw pow-suc at h) in
    by_lt n 10 (λ _ e. rw e) (λ _ e. rw (e, enough k (n / 10) less))

-- the last digit, and those of the tenth before it
pub decimal_last : (n : ℕ) → 10 ≤ n → n < 2 ^ 64 → decimal n ≡ decimal (n / 10) ++ (48 + n % 10) ∷ []
unfolding decimal
decimal_last n l h =
    let less : n / 10 < 10 ^ 19 = omega arith in
    let one : decimal_in 20 n ≡ decimal_in 19 (n / 10) ++ (48 + n % 10) ∷ [] = unfold decimal_in in rw (le-ltb n 10 l) in
    rw (one, enough 18 (n / 10) less)

pub decimal_one : (n : ℕ) → n < 10 → decimal n ≡ (48 + n) ∷ []
unfolding decimal decimal_in
decimal_one n l = rw (lt-ltb n 10 l)

-- a tenth has one digit less
pub decimal_tenth : (n : ℕ) → 10 ≤ n → n < 2 ^ 64 → length (decimal n) ≡ length (decimal (n / 10)) + 1
decimal_tenth n l h = rw (decimal_last n l h, length-append)

-- FOUR DIGITS AT MOST, by the powers of ten; and a ten-thousandth has four less

pub one_digit : (n : ℕ) → n < 10 → 1 ≡ length (decimal n)
one_digit n l = rw (decimal_one n l)

pub two_digits : (n : ℕ) → 10 ≤ n → n < 100 → 2 ≡ length (decimal n)
two_digits n l h = omega (arith, decimal_tenth n l (omega arith), one_digit (n / 10) (omega arith))

pub three_digits : (n : ℕ) → 100 ≤ n → n < 1000 → 3 ≡ length (decimal n)
three_digits n l h = omega (arith, decimal_tenth n (omega arith) (omega arith), two_digits (n / 10) (omega arith) (omega arith))

pub four_digits : (n : ℕ) → 1000 ≤ n → n < 10000 → 4 ≡ length (decimal n)
four_digits n l h = omega (arith, decimal_tenth n (omega arith) (omega arith), three_digits (n / 10) (omega arith) (omega arith))

pub decimal_part : (n : ℕ) → 10000 ≤ n → n < 2 ^ 64 → length (decimal n) ≡ length (decimal (n / 10000)) + 4
decimal_part n l h =
    let one = decimal_tenth n (omega arith) h in
    let two = decimal_tenth (n / 10) (omega arith) (omega arith) in
    let three = decimal_tenth (n / 10 / 10) (omega arith) (omega arith) in
    let four = decimal_tenth (n / 10 / 10 / 10) (omega arith) (omega arith) in
    let same : n / 10 / 10 / 10 / 10 ≡ n / 10000 = omega arith in
    let last : length (decimal (n / 10 / 10 / 10 / 10)) ≡ length (decimal (n / 10000)) = ap (λ (k : ℕ). length (decimal k)) same in
    omega (arith, one, two, three, four, last)

pub decimal_least : (n : ℕ) → n < 2 ^ 64 → 1 ≤ length (decimal n)
decimal_least n h =
    by_lt n 10 (λ l _. rw (decimal_one n l) (omega arith)) (λ l _. let more = decimal_tenth n l h in omega arith)

-- THE LINE OF A NUMBER

module _ (s : Bool) (n d : ℕ) where
  pub length_minus : s ≡ true → d ≡ length (decimal n) → d + 2 ≡ length (signed_line s n)
  length_minus e q = rw (e, q) (simp length-append (omega arith))

  pub length_plain : s ≡ false → d ≡ length (decimal n) → d + 1 ≡ length (signed_line s n)
  length_plain e q = rw (e, q) (simp length-append (omega arith))

pub signed_most : (s : Bool) (n : ℕ) → length (signed_line s n) ≤ 22
signed_most true n = simp length-append (omega (arith, decimal_length n))
signed_most false n = simp length-append (omega (arith, decimal_length n))
