-- `roots::scaled_root` meets its contract: at an even scale the root has 53 digits, so the pattern that is put together is its own.
-- Assumes nothing.
use mathlib.Core.Path.{subst}
use Prim.Native.Nat.{ℕ, ◌*◌, ◌/◌, ◌%◌, ◌+◌, ◌^◌, ◌≤◌, ◌<◌}
use native.Mathlib.Omega.{arith}
use lib.Ieee.{binary64, of_bits}
use Rattle.roots.specs.Roots.{Nearest}
use Rattle.roots.proofs.Newton.{Evened}
use Rattle.roots.proofs.Patterns.{Steps, value, no_nan_bits}
use Rattle.roots.proofs.Scales.{evened, root_ge, root_lt}
use Rattle.roots.proofs.scaled_root.Goals.{After-nearest_root-n, Start}
use Rattle.roots.proofs.scaled_root.Goals as goal

-- the digits, at an even scale
even : (bits scale : ℕ) → Evened ((bits % 2 ^ 52 + 2 ^ 52) * 2 ^ (scale % 2))
even bits scale = evened (bits % 2 ^ 52 + 2 ^ 52) scale (omega arith) (omega arith)

pub nearest_root-n-requires : goal.nearest_root-n-requires
nearest_root-n-requires c = record { is = (even c.args.bits c.args.scale).cut; bit = omega arith; low = omega arith; high = omega arith }

module _ (c : After-nearest_root-n) where
  nearest : let a = c.args in Nearest ((a.bits % 2 ^ 52 + 2 ^ 52) * 2 ^ (a.scale % 2) * 2 ^ 52) c.nearest_root-n.result
  nearest = subst (λ (m : ℕ). Nearest (m * 2 ^ 52) c.nearest_root-n.result) (even c.args.bits c.args.scale).cut c.nearest_root-n.ensures

  digits : (2 ^ 52 ≤ c.nearest_root-n.result) × (c.nearest_root-n.result < 2 ^ 53)
  digits =
      let e = even c.args.bits c.args.scale in
      (root_ge _ c.nearest_root-n.result (omega arith) nearest, root_lt _ c.nearest_root-n.result e.high nearest)

  made : let h = c.args.scale / 2 in Steps (of_bits binary64 (h * 2 ^ 52 + c.nearest_root-n.result)) c.nearest_root-n.result h
  made = value (c.args.scale / 2) c.nearest_root-n.result (omega arith) digits.0 digits.1

pub overflow_add-result : goal.overflow_add-result
overflow_add-result c = let d = digits (goal.at.overflow_add-result c).After-nearest_root-n in omega arith

pub float_from_bits-result : goal.float_from_bits-result
float_from_bits-result c = no_nan_bits _ _ _ _ (made (goal.at.float_from_bits-result c).After-nearest_root-n)

pub returns : goal.returns
returns c = record { n = c.nearest_root-n.result; nearest = nearest (goal.at.returns c).After-nearest_root-n; root = made (goal.at.returns c).After-nearest_root-n }
