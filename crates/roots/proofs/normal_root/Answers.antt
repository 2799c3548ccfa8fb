-- `roots::normal_root` meets its contract, by what the pattern of a number above 0 says of it. Assumes nothing.
use mathlib.Core.Path.{sym, subst}
use Prim.Native.Nat.{◌/◌, ◌+◌, ◌^◌}
use native.Mathlib.Omega.{arith}
use lib.Dec.{T}
use lib.Ieee.{binary64, to_bits}
use Rattle.roots.proofs.Patterns.{Parts, parts, positive_no_nan}
use Rattle.roots.proofs.Scales.{Ready, normal, not_zero, answered}
use Rattle.roots.proofs.normal_root.Goals.{Start}
use Rattle.roots.proofs.normal_root.Goals as goal

read : (c : Start) → Parts c.args.x (to_bits binary64 c.args.x)
read c = parts c.args.x (subst T (sym c.well_formed.0.1) tt) c.requires.above

ready : (c : Start) → let x = c.args.x in Ready x (to_bits binary64 x) (to_bits binary64 x / 2 ^ 52 + 1021)
ready c =
    let x = c.args.x in
    normal x (to_bits binary64 x) (read c) (not_zero x (to_bits binary64 x) (read c) c.requires.above c.requires.normal)

pub float_to_bits-bits : goal.float_to_bits-bits
float_to_bits-bits c = positive_no_nan c.args.x c.requires.above

pub overflow_add-bits : goal.overflow_add-bits
overflow_add-bits c = omega (arith, (read (goal.at.overflow_add-bits c).Start).field_lt)

pub scaled_root-requires : goal.scaled_root-requires
scaled_root-requires c = let r = ready (goal.at.scaled_root-requires c).Start in record { least = r.least_scale; most = r.most_scale }

pub returns : goal.returns
returns c = answered _ _ _ _ (ready (goal.at.returns c).Start) c.scaled_root.ensures
