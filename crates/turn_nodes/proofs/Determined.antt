-- The contracts of this crate determine what their calls answer. Assumes nothing.
use mathlib.Core.Path.{◌≡◌}
use Prim.Native.Nat.{ℕ}
use Rattle.common.specs.Digits.{from_digits}
use Rattle.common.specs.declared.Three.{Three}
use Rattle.common.proofs.Determined.{coincide}
use Rattle.vectors.specs.declared.Turn.{Turn}
use Rattle.turn_nodes.specs.Working.{image_index, reversed_all, origin_index}

module _ (D p : ℕ) (t : Turn) (n : Three) (r r' : ℕ) where
  image_of_determined : r ≡ from_digits p D (image_index D p t n) → r' ≡ from_digits p D (image_index D p t n) → r ≡ r'
  image_of_determined = coincide r r' (from_digits p D (image_index D p t n))

  origin_of_determined : r ≡ from_digits p D (origin_index D t.order (reversed_all p t n)) →
      r' ≡ from_digits p D (origin_index D t.order (reversed_all p t n)) → r ≡ r'
  origin_of_determined = coincide r r' (from_digits p D (origin_index D t.order (reversed_all p t n)))
