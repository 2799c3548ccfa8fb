-- A byte as a signed number, as the machine has it. Assumes nothing.
use mathlib.Core.Path.{◌≡◌, ◌∙◌}
use Prim.Native.Nat.{ℕ, ◌≤◌, ◌<◌}
use native.Mathlib.Omega.{arith}
use lib.IntN.{ℤ, pos, ◌-ℤ◌}
use mir.Syntax.{w32}
use mir.Val.{SFits, to_z, of_z}
use mir.Facts.{to_z-of_z}
use borrow.Author.Tests.{lt-ltb, le-ltb}
use Rattle.vectors.specs.declared.Vector.{Vector}
use Rattle.records.specs.Text.{signed, vector}

-- a byte's bits at 32 bits are those of the byte as a natural number
wide : (b : ℕ) → b < 256 → to_z w32 b ≡ pos b
wide b l = rw (lt-ltb b 2147483648 (omega arith))

pub signed_low : (b : ℕ) → b < 128 → to_z w32 b ≡ signed b
unfolding signed
signed_low b l = rw (lt-ltb b 128 l) (wide b (omega arith))

pub signed_fits : (b : ℕ) → b < 256 → SFits w32 (to_z w32 b -ℤ pos 256)
signed_fits b l = rw (wide b l, lt-ltb b 256 l) (record { sfits = omega arith })

pub signed_high : (b : ℕ) → 128 ≤ b → b < 256 → to_z w32 (of_z w32 (to_z w32 b -ℤ pos 256)) ≡ signed b
unfolding signed
signed_high b h l = to_z-of_z (signed_fits b l) ∙ rw (le-ltb b 128 h, wide b l)

-- three signed numbers, read back from their bits, are the vector of their bytes
pub same_vector : (x y z : ℕ) {a b c : ℤ} → SFits w32 a → SFits w32 b → SFits w32 c → a ≡ signed x → b ≡ signed y → c ≡ signed z →
    ◌≡◌ {A = Vector} (record { 0 = to_z w32 (of_z w32 a); 1 = to_z w32 (of_z w32 b); 2 = to_z w32 (of_z w32 c) }) (vector x y z)
same_vector x y z f g h p q r = rw (to_z-of_z f, to_z-of_z g, to_z-of_z h, p, q, r)
