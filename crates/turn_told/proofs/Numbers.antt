-- A vector of three parameters is read back from their bits. Assumes nothing.
use mathlib.Core.Path.{◌≡◌}
use Prim.Native.Nat.{ℕ}
use lib.IntN.{ℤ}
use mir.Syntax.{w32}
use mir.Val.{to_z, of_z, SFits}
use mir.Facts.{to_z-of_z}
use Rattle.turn.specs.Follow.{follow_call}
use Rattle.vectors.specs.LookUps.{look_up}

pub look_held : (D : ℕ) (x y z : ℤ) → SFits w32 x → SFits w32 y → SFits w32 z →
    look_up D (to_z w32 (of_z w32 x), to_z w32 (of_z w32 y), to_z w32 (of_z w32 z)) ≡ look_up D (x, y, z)
look_held D x y z fx fy fz = rw (to_z-of_z fx, to_z-of_z fy, to_z-of_z fz)

pub follow_held : (D p : ℕ) (x y z : ℤ) (n : ℕ) → SFits w32 x → SFits w32 y → SFits w32 z →
    follow_call D p (to_z w32 (of_z w32 x), to_z w32 (of_z w32 y), to_z w32 (of_z w32 z)) n ≡ follow_call D p (x, y, z) n
follow_held D p x y z n fx fy fz = rw (to_z-of_z fx, to_z-of_z fy, to_z-of_z fz)
