-- An answer in numbers: what a call answers and leaves that writes its values into a slice that the caller lends.
use Rattle.std.specs.Prelude.{ℕ, Bool, List, eqb, length}
use Rattle.common.specs.Refusals.{wrong_length, unless, left, lower}

-- the lower of a call's own number and the one that a lent answer of a wrong length brings, 0 being none
unfoldable pub with_length : (own : ℕ) → (fits : Bool) → ℕ
with_length own fits = lower own (unless fits wrong_length 0)

module _ {A : Type 0} where
  -- the call's number, and the lent answer after it: the values where the number is 0, otherwise as lent
  unfoldable pub written : (own : ℕ) → (values answer : List A) → ℕ × List A
  written own values answer =
      let n = with_length own (eqb (length answer) (length values)) in
      (n, left n values answer)
