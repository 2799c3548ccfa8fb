-- The text of numbers: how long it is, and that the digits of `io` are its digits. Assumes nothing.
use mathlib.Core.Path.{◌≡◌}
use mathlib.Core.List.{List, [], ◌∷◌}
use Prim.Native.Nat.{ℕ, zero, suc, ◌+◌, ◌-◌, ◌*◌, ◌/◌, ◌%◌, ◌^◌, ◌≤◌, ◌<◌, zero-le}
use native.Mathlib.Nat.{not-suc-le-zero, mod-lt, mod-eq_of_lt, one-le-pow, pow-suc, pow-le-pow_right, le_trans, div-lt_iff_lt-mul}
use native.Mathlib.Nat.{le-div_iff_mul-le}
use native.Mathlib.Omega.{arith}
use lib.Dec.{ltb, lit<}
use lib.ListN.{length, length-append}
use borrow.Author.Tests.{lt-ltb, le-ltb}
use Rattle.common.proofs.Cases.{by_bool, by_lt}
use Rattle.io.specs.Digits.{last_digits, IsDigitCount}
use Rattle.text.specs.Text.{decimal_in, decimal, counted}

-- LENGTHS

in_length : (k n : ℕ) → length (decimal_in k n) ≤ k
unfolding decimal_in
in_length zero n = zero-le
in_length (suc k) n =
    by_bool (ltb n 10) (λ e. rw e (omega arith)) (λ e. rw (e, length-append) (let less = in_length k (n / 10) in omega arith))

pub decimal_length : (n : ℕ) → length (decimal n) ≤ 20
unfolding decimal
decimal_length n = in_length 20 n

pub one_digit : (n : ℕ) → n < 10 → decimal n ≡ (48 + n) ∷ []
unfolding decimal decimal_in
one_digit n l = rw (lt-ltb n 10 l)

pub decimal_digit : (n : ℕ) → n < 10 → length (decimal n) ≡ 1
decimal_digit n l = rw (one_digit n l)

pub counted_length : (w : List ℕ) (n : ℕ) → length (counted w n) ≡ length w + (length (decimal n) + 2)
counted_length w n = rw (length-append, length-append) (omega arith)

-- DIGITS

-- the fewest digits that hold a number are those of its text
fewest_in : (most r n : ℕ) → r ≤ most → IsDigitCount 10 1 n r → last_digits 10 r n ≡ decimal_in most n
unfolding decimal_in
fewest_in most zero n l f = absurd (not-suc-le-zero f.0)
fewest_in zero (suc r) n l f = absurd (not-suc-le-zero l)
fewest_in (suc k) (suc zero) n l f =
    let small : n < 10 = f.1 in
    rw (mod-eq_of_lt small, lt-ltb n 10 small)
fewest_in (suc k) (suc (suc r)) n l f =
    let ten : 0 < 10 = omega arith in
    let one : suc (suc r) - 1 ≡ suc r = omega arith in
    let two : suc r - 1 ≡ r = omega arith in
    let below : n < 10 ^ suc r * 10 = rw pow-suc at f.1 in
    let above : 10 ^ r * 10 ≤ n = rw (one, pow-suc) at (f.2 (omega arith)) in
    let tenth : IsDigitCount 10 1 (n / 10) (suc r) =
    (omega arith, (div-lt_iff_lt-mul ten).1 below, λ _. rw two ((le-div_iff_mul-le ten).1 above)) in
    rw (
      le-ltb n 10 (omega (arith, above, one-le-pow r 10 ten)),
      lt-ltb (n % 10) 10 (mod-lt n ten),
      fewest_in k (suc r) (n / 10) (omega arith) tenth,
    )

-- twenty digits hold every number that fits 64 bits
fewest_most : (r n : ℕ) → n < 2 ^ 64 → IsDigitCount 10 1 n r → r ≤ 20
fewest_most r n fits f =
    by_lt 20 r
    (λ more _. let large : 10 ^ 20 ≤ n = le_trans (pow-le-pow_right {n = 10} (lit< tt) {i = 20} {j = r - 1} (omega arith))
    (f.2 (omega arith)) in absurd (omega arith))
    (λ enough _. enough)

pub fewest_decimal : (r n : ℕ) → n < 2 ^ 64 → IsDigitCount 10 1 n r → last_digits 10 r n ≡ decimal n
unfolding decimal
fewest_decimal r n fits f = fewest_in 20 r n (fewest_most r n fits f) f
