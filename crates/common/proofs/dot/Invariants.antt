-- `common::dot` meets its contract. The loop keeps: the sum is that of the first s products. Assumes nothing.
use Rattle.std.proofs.Common.{◌≡◌}
use Rattle.common.specs.Floats.{dot_of}
use Rattle.common.proofs.dot.Given as goal

abbrev pub invariant-loop-s : goal.invariant-loop-s
invariant-loop-s l = l.sum ≡ dot_of l.s l.a l.i l.di l.b l.j l.dj
