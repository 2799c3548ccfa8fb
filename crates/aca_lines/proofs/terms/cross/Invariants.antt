-- `aca_lines::terms::cross` meets its contract. The loop keeps: sum has the products of the terms before l. Assumes nothing.
use mathlib.Core.Path.{◌≡◌}
use Prim.Native.Nat.{◌≤◌}
use lib.ListN.{length}
use Rattle.aca_lines.specs.Lines.{cross}
use Rattle.aca_lines.proofs.terms.cross.Given as goal

abbrev pub invariant-loop-l : goal.invariant-loop-l
invariant-loop-l l = (l.m ≡ length l.column) × (l.n ≡ length l.row) × (l.l ≤ l.k) × (l.sum ≡ cross l.l l.u l.v l.column l.row)
