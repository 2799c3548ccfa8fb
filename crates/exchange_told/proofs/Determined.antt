-- The contracts of this crate determine the number and all lent memory: two outcomes that one allows for an input coincide. Assumes
-- nothing.
use mathlib.Core.Path.{◌≡◌}
use mathlib.Core.List.{List}
use Prim.Native.Nat.{ℕ}
use lib.Ieee.{Float}
use Rattle.common.proofs.Determined.{coincide}
use Rattle.exchange_told.specs.Exchanged.{size_told, read_told, write_told}

module _ (text sizes : List ℕ) (r r' : ℕ × List ℕ) where
  block_size_told_determined : r ≡ size_told text sizes → r' ≡ size_told text sizes → r ≡ r'
  block_size_told_determined = coincide r r' (size_told text sizes)

module _ (text : List ℕ) (block : List Float) (sizes : List ℕ) (r r' : ℕ × List Float × List ℕ) where
  read_block_told_determined : r ≡ read_told text block sizes → r' ≡ read_told text block sizes → r ≡ r'
  read_block_told_determined = coincide r r' (read_told text block sizes)

module _ (rows columns : ℕ) (block : List Float) (text written : List ℕ) (r r' : ℕ × List ℕ × List ℕ) where
  write_block_told_determined : r ≡ write_told rows columns block text written → r' ≡ write_told rows columns block text written → r ≡ r'
  write_block_told_determined = coincide r r' (write_told rows columns block text written)
