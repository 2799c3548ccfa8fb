-- The contracts of this crate determine their results. Assumes nothing.
use mathlib.Core.Path.{◌≡◌}
use mathlib.Core.List.{List}
use Prim.Native.Nat.{ℕ}
use lib.Ieee.{Float}
use lib.ListN.{length}
use Rattle.common.proofs.Determined.{coincide}
use Rattle.aca_lines.specs.Lines.{row_less, column_less, multiplied, as_column, norm, cross}

-- a row of the block, and a column
module _ (samples u v line exit exit' : List Float) (across at k : ℕ) where
  read_row_determined : exit ≡ row_less across (length line) samples u v k at →
      exit' ≡ row_less across (length line) samples u v k at → exit ≡ exit'
  read_row_determined = coincide exit exit' _

  read_column_determined : exit ≡ column_less (length line) across samples u v k at →
      exit' ≡ column_less (length line) across samples u v k at →
      exit ≡ exit'
  read_column_determined = coincide exit exit' _

multiply_determined : (factor : Float) (line exit exit' : List Float) → exit ≡ multiplied factor line →
    exit' ≡ multiplied factor line → exit ≡ exit'
multiply_determined factor line exit exit' = coincide exit exit' (multiplied factor line)

norm_determined : (column row : List Float) (r r' : Float) → r ≡ norm column row → r' ≡ norm column row → r ≡ r'
norm_determined column row r r' = coincide r r' (norm column row)

cross_determined : (k : ℕ) (u v column row : List Float) (r r' : Float) → r ≡ cross k u v column row → r' ≡ cross k u v column row → r ≡ r'
cross_determined k u v column row r r' = coincide r r' (cross k u v column row)

-- both matrices by one statement: a column, or a row, is laid into its own
store_determined : (k : ℕ) (line matrix exit exit' : List Float) → exit ≡ as_column k line matrix → exit' ≡ as_column k line matrix →
    exit ≡ exit'
store_determined k line matrix exit exit' = coincide exit exit' _
