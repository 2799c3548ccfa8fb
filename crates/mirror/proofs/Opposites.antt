-- Mirror-exact nodes at an index and at the reversed index are opposite; so are coordinates and their differences. Assumes nothing.
use Prim.Native.Nat.{ℕ, suc, ◌+◌, ◌-◌, ◌*◌, ◌<◌}
use mathlib.Core.Path.{◌≡◌, refl}
use native.Mathlib.Omega.{arith}
use lib.IntN.{pos, negsuc}
use lib.Ieee.{Float, fin, neg, binary64, of_bits}
use mathlib.Core.Bool.{false}
use Rattle.common.specs.Floats.{zero₆₄, half₆₄, times}
use Rattle.common.proofs.Cases.{by_lt}
use Rattle.floats.specs.Signs.{Opposite, zeros}
use Rattle.floats.proofs.Opposites.{neg_opposite, opposite_of_neg, mul_opposite, add_opposite, sub_opposite, of_int_opposite}
use Rattle.node_rows.specs.Rows.{node}
use Rattle.nodes.specs.Sets.{mirrored}
use Rattle.nodes.proofs.Mirror.{mirrored_upper, mirrored_lower, mirrored_middle}
use Rattle.point_columns.specs.Blocks.{on_target, on_source}
use Rattle.mirror.specs.FloatTurns.{difference}

-- NODES

zero_is : zero₆₄ ≡ fin false 0 (pos 0)
unfolding of_bits
zero_is = refl

-- +0.0 is its own opposite
zero_opposite : Opposite zero₆₄ zero₆₄
unfolding neg
zero_opposite = rw zero_is (record { negated = zeros })

pub mirrored_opposite : (p i : ℕ) → i < p → Opposite (mirrored p (p - 1 - i)) (mirrored p i)
mirrored_opposite p i h =
    let back : p - 1 - (p - 1 - i) ≡ i = omega arith in
    by_lt p (2 * i + 1)
    (λ u _. rw (mirrored_upper p i u, mirrored_lower p (p - 1 - i) (omega arith), back) (neg_opposite (node p i)))
    (λ g _. by_lt (2 * i + 1) p
    (λ l _. rw (mirrored_lower p i l, mirrored_upper p (p - 1 - i) (omega arith)) (opposite_of_neg (node p (p - 1 - i))))
    (λ g' _. rw (mirrored_middle p i (omega arith), mirrored_middle p (p - 1 - i) (omega arith)) zero_opposite))

-- COORDINATES

module _ (side : Float) where
  target_opposite : {x x' : Float} → Opposite x x' → Opposite (on_target side x) (on_target side x')
  target_opposite h = mul_opposite binary64 (times half₆₄ side) h

  source_opposite : {r r' x x' : Float} → Opposite r r' → Opposite x x' → Opposite (on_source side r x) (on_source side r' x')
  source_opposite g h = mul_opposite binary64 side (add_opposite binary64 g (mul_opposite binary64 half₆₄ h))

  -- a negative entry and opposite nodes negate the difference, the sign of a zero apart
  pub difference_opposite : (n : ℕ) {s s' t t' : Float} → Opposite s' s → Opposite t' t →
      Opposite (difference side (negsuc n) s' t') (difference side (pos (suc n)) s t)
  unfolding difference
  difference_opposite n hs ht =
      sub_opposite binary64 (source_opposite (of_int_opposite binary64 (pos (suc n))) hs) (target_opposite ht)
