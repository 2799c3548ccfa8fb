-- The contract that other crates use determines what is told: two answers that it allows for an input tell the same. Assumes nothing.
use mathlib.Core.Path.{◌≡◌, sym, ◌∙◌}
use mathlib.Core.List.{List}
use Prim.Native.Nat.{ℕ}
use Rattle.std.specs.Prelude.{Result}
use Rattle.exchange_format.specs.Lines.{lines}
use Rattle.exchange_format.specs.Reading.{opening}
use Rattle.exchange_format.specs.declared.Fault.{Fault}
use Rattle.exchange_lines.specs.declared.Opening.{Opening}
use Rattle.exchange_lines.specs.Working.{meant, Opens}

open_determined : (text : List ℕ) (r r' : Result Opening Fault) → Opens text (opening (lines text)) r →
    Opens text (opening (lines text)) r' → meant text r ≡ meant text r'
open_determined text r r' h h' = h.means ∙ sym h'.means
