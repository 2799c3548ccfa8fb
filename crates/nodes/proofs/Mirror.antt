-- The mirror-exact nodes, part by part. Assumes nothing.
use mathlib.Core.Path.{◌≡◌}
use Prim.Native.Nat.{ℕ, ◌+◌, ◌-◌, ◌*◌, ◌<◌, ◌≤◌}
use native.Mathlib.Omega.{arith}
use lib.Ieee.{neg}
use borrow.Author.Tests.{lt-ltb, le-ltb}
use Rattle.common.specs.Floats.{zero₆₄}
use Rattle.node_rows.specs.Rows.{node}
use Rattle.nodes.specs.Sets.{mirrored}

module _ (p i : ℕ) where
  pub mirrored_upper : p < 2 * i + 1 → mirrored p i ≡ node p i
  unfolding mirrored
  mirrored_upper h = rw (lt-ltb p (2 * i + 1) h)

  pub mirrored_lower : 2 * i + 1 < p → mirrored p i ≡ neg (node p (p - 1 - i))
  unfolding mirrored
  mirrored_lower h = let g : 2 * i + 1 ≤ p = omega arith in rw (le-ltb p (2 * i + 1) g, lt-ltb (2 * i + 1) p h)

  pub mirrored_middle : 2 * i + 1 ≡ p → mirrored p i ≡ zero₆₄
  unfolding mirrored
  mirrored_middle h =
      let g : 2 * i + 1 ≤ p = omega arith in
      let g' : p ≤ 2 * i + 1 = omega arith in
      rw (le-ltb p (2 * i + 1) g, le-ltb (2 * i + 1) p g')
