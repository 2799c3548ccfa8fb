-- `roots::subnormal_root` meets its contract, by what the pattern of a number above 0 says of it. Assumes nothing.
use mathlib.Core.Path.{◌≡◌, sym, subst}
use Prim.Native.Nat.{◌/◌, ◌^◌}
use native.Mathlib.Omega.{arith}
use lib.Dec.{T}
use lib.Ieee.{binary64, to_bits}
use Rattle.roots.proofs.Patterns.{Parts, parts, positive_no_nan}
use Rattle.roots.proofs.Scales.{Shifted, zeros_of_lem, subnormal, is_zero, answered}
use Rattle.roots.proofs.subnormal_root.Goals.{Start}
use Rattle.roots.proofs.subnormal_root.Goals as goal

read : (c : Start) → Parts c.args.x (to_bits binary64 c.args.x)
read c = parts c.args.x (subst T (sym c.well_formed.0.1) tt) c.requires.above

field : (c : Start) → to_bits binary64 c.args.x / 2 ^ 52 ≡ 0
field c = is_zero c.args.x (to_bits binary64 c.args.x) (read c) c.requires.subnormal

zeros : (c : Start) → Shifted (to_bits binary64 c.args.x)
zeros c = zeros_of_lem c.args.x (to_bits binary64 c.args.x) (read c) (field c)

pub float_to_bits-bits : goal.float_to_bits-bits
float_to_bits-bits c = positive_no_nan c.args.x c.requires.above

pub overflow_cast-zeros : goal.overflow_cast-zeros
overflow_cast-zeros c = let s = zeros (goal.at.overflow_cast-zeros c).Start in omega arith

pub overflow_sub-zeros : goal.overflow_sub-zeros
overflow_sub-zeros c = let s = zeros (goal.at.overflow_sub-zeros c).Start in omega arith

pub overflow_shl-bits : goal.overflow_shl-bits
overflow_shl-bits c = let s = zeros (goal.at.overflow_shl-bits c).Start in omega arith

pub overflow_mul-zeros : goal.overflow_mul-zeros
overflow_mul-zeros c = omega arith

pub overflow_add-bits : goal.overflow_add-bits
overflow_add-bits c = let s = zeros (goal.at.overflow_add-bits c).Start in rw s.cut (omega arith)

pub overflow_sub-zeros-2 : goal.overflow_sub-zeros-2
overflow_sub-zeros-2 c = let s = zeros (goal.at.overflow_sub-zeros-2 c).Start in omega arith

pub scaled_root-requires : goal.scaled_root-requires
scaled_root-requires c =
    let r = subnormal c.args.x (to_bits binary64 c.args.x) (read (goal.at.scaled_root-requires c).Start) (field (goal.at.scaled_root-requires c).Start) in
    record { least = r.least_scale; most = r.most_scale }

pub returns : goal.returns
returns c =
    answered _ _ _ _ (subnormal c.args.x (to_bits binary64 c.args.x) (read (goal.at.returns c).Start) (field (goal.at.returns c).Start)) c.scaled_root.ensures
