-- Columns that are products of one column an axis: a start, and the other axes in order.
use Rattle.std.specs.Prelude.{◌≡◌, cond, List, ℕ, zero, suc, ◌+◌, ◌-◌, ◌*◌, ◌<◌, eqb, Float, length, get_or}
use Rattle.std.specs.Float.{nan}
use Rattle.common.specs.Digits.{digit}
use Rattle.common.specs.Floats.{times}

-- a start times f 0, times f 1, .. times f (n - 1), with f g left out
unfoldable pub others : (g : ℕ) → (start : Float) → (n : ℕ) → (ℕ → Float) → Float
others g v zero f = v
others g v (suc n) f = cond (eqb n g) (others g v n f) (times (others g v n f) (f n))

-- A SOURCE of a column is a buffer and an axis: at a node it gives the buffer's column of the node's index on that axis.

-- where the column of an axis begins in a buffer, for the node with number k
abbrev pub place_of : (D p P k a : ℕ) → ℕ
place_of D p P k a = (a * p + digit p D a k) * P

-- row i of the column of node k, whose product starts with axis g of one buffer and goes on with the other axes of another
abbrev pub started_of : (D p P g : ℕ) → (starts factors : List Float) → (i k : ℕ) → Float
started_of D p P g starts factors i k =
    others g (get_or starts (place_of D p P k g + i) nan) D (λ a. get_or factors (place_of D p P k a + i) nan)

-- AS MANY SOURCES as the dimension says, in their order

-- one of three, by its number
unfoldable pub three : {A : Type 0} → (first second third : A) → ℕ → A
three a b c zero = a
three a b c (suc zero) = b
three a b c (suc (suc n)) = c

-- f 0 times f 1, times f 2, .. times f n
unfoldable pub chain : (n : ℕ) → (ℕ → Float) → Float
chain zero f = f zero
chain (suc n) f = times (chain n f) (f (suc n))

-- row i of the column of node k
abbrev pub product_of : (D p P : ℕ) → (axes : ℕ → ℕ) → (buffers : ℕ → List Float) → (i k : ℕ) → Float
product_of D p P axes buffers i k = chain (D - 1) (λ m. get_or (buffers m) (place_of D p P k (axes m) + i) nan)

-- the sources of a product: each axis is one, and each buffer has p columns of P rows an axis
pub record Sources (D p P : ℕ) (axes : ℕ → ℕ) (buffers : ℕ → List Float) : Type 0 where
  pub axis : (m : ℕ) → axes m < D
  pub long : (m : ℕ) → length (buffers m) ≡ D * p * P
