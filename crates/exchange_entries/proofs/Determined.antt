-- The contracts of this crate determine what their calls answer and leave. Assumes nothing.
use mathlib.Core.Path.{◌≡◌, sym, ◌∙◌}
use mathlib.Core.List.{List}
use Prim.Native.Nat.{ℕ}
use lib.Ieee.{Float}
use lib.ListN.{length, drop}
use Rattle.common.specs.Lists.{tabulate}
use Rattle.common.proofs.Determined.{coincide}
use Rattle.exchange_format.specs.Lines.{lines}
use Rattle.exchange_format.specs.Reading.{entries}
use Rattle.exchange_format.specs.Faults.{outcome}
use Rattle.exchange_format.specs.declared.Fault.{Fault}
use Rattle.exchange_format.proofs.Handed.{outcome_same}
use Rattle.std.specs.Prelude.{Result}
use Rattle.exchange_entries.specs.Working.{value_at, checked}

check_entries_determined : (text : List ℕ) (at line count : ℕ) (r r' : Result (Unit {0}) Fault) →
    outcome r ≡ checked (entries line count (lines (drop at text))) → outcome r' ≡ checked (entries line count (lines (drop at text))) →
    r ≡ r'
check_entries_determined text at line count r r' e e' = outcome_same r r' (e ∙ sym e')

fill_block_determined : (text : List ℕ) (from : ℕ) (block exit exit' : List Float) →
    exit ≡ tabulate (length block) (value_at (lines (drop from text))) →
    exit' ≡ tabulate (length block) (value_at (lines (drop from text))) → exit ≡ exit'
fill_block_determined text from block exit exit' = coincide exit exit' (tabulate (length block) (value_at (lines (drop from text))))
