-- The contract of this crate determines what its call answers. Assumes nothing.
use mathlib.Core.Path.{◌≡◌}
use mathlib.Core.List.{List}
use Prim.Native.Nat.{ℕ}
use Rattle.common.proofs.Determined.{coincide}
use Rattle.mending_counts.specs.Occurrences.{occurs}

count_of_determined : (text : List ℕ) (letter r r' : ℕ) → r ≡ occurs letter text → r' ≡ occurs letter text → r ≡ r'
count_of_determined text letter r r' = coincide r r' (occurs letter text)
