-- `exchange_lines::numbers::numeral` meets its contract. The loop keeps what the number is, with n for the digits read. Assumes nothing.
use mathlib.Core.Path.{◌≡◌}
use Prim.Native.Nat.{◌≤◌}
use lib.ListN.{drop}
use Rattle.common.specs.Refusals.{most_entries}
use Rattle.exchange_format.specs.Words.{numeral}
use Rattle.exchange_lines.proofs.Running.{running}
use Rattle.exchange_lines.proofs.numbers.numeral.Given as goal

abbrev pub invariant-loop-b : goal.invariant-loop-b
invariant-loop-b l = (l.n ≤ most_entries) × (running most_entries l.n (drop l.b-index l.s) ≡ numeral most_entries l.s)
