-- The rank cutoff: the first place whose sum of squares, from the end, is strictly below (total*epsilon)*epsilon, else the length.
use Rattle.std.specs.Prelude.{ℕ, suc, cond, List, [], ◌∷◌, Float, length}
use Rattle.std.proofs.Math.Option.{Option}
use Rattle.std.specs.Float.Ieee.{lt}
use Rattle.common.specs.Floats.{plus, times, zero₆₄}
use Rattle.common.specs.Refusals.{no_count, unless, most_entries, answer}
use Rattle.common.specs.Tests.{within}

-- the squares, summed from the end
unfoldable pub squares : List Float → Float
squares [] = zero₆₄
squares (x ∷ l) = plus (squares l) (times x x)

-- the first place from which on they sum up to less than a bound, else the length
unfoldable pub first_below : (bound : Float) → List Float → ℕ
first_below b [] = 0
first_below b (x ∷ l) = cond (lt (squares (x ∷ l)) b) 0 (suc (first_below b l))

unfoldable pub cutoff : (values : List Float) → (epsilon : Float) → ℕ
cutoff l epsilon = first_below (times (times (squares l) epsilon) epsilon) l

-- THE CALL

unfoldable pub cutoff_number : (values : List Float) → ℕ
cutoff_number l = unless (within 1 most_entries (length l)) no_count 0

unfoldable pub cutoff_call : (values : List Float) → (epsilon : Float) → ℕ × Option ℕ
cutoff_call l epsilon = answer (cutoff_number l) (cutoff l epsilon)
