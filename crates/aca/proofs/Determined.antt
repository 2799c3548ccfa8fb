-- The public contract determines the answer: two that it allows for an input coincide. Assumes nothing.
use mathlib.Core.Path.{◌≡◌, ap}
use mathlib.Core.Bool.{Bool}
use mathlib.Core.Option.{none, some}
use mathlib.Core.List.{List}
use Prim.Native.Nat.{ℕ}
use lib.Ieee.{Float}
use Rattle.common.proofs.Determined.{coincide}
use Rattle.aca_steps.specs.Memories.{Memory}
use Rattle.aca.specs.Reports.{told}
use Rattle.aca.specs.Runs.{Call, call, aca_call}
use Rattle.std.specs.Prelude.{Result, Ok, Err}
use Rattle.common.specs.declared.refusals.Refusal.{Refusal}
use Rattle.common.proofs.Numbers.{number_same}
use Rattle.aca_progress.proofs.Steps.{stop_same}
use Rattle.aca_progress.specs.declared.Stop.{Stop}
use Rattle.aca.specs.Reports.{Report as Told, told_report}
use Rattle.aca.specs.declared.Report.{Report}

-- reports and answers that tell the same are the same
abbrev made : (rank : ℕ) → (estimate smallest : Float) → Stop → (rows : ℕ) → Report
made k e x w n = record { rank = k; estimate = e; smallest = x; stop = w; rows_read = n }

report_same : (x x' : Report) → told_report x ≡ told_report x' → x ≡ x'
report_same x x' e =
    let why : x.stop ≡ x'.stop = stop_same x.stop x'.stop (ap (λ (r : Told). r.stop) e) in
    let rank : x.rank ≡ x'.rank = ap (λ (r : Told). r.rank) e in
    let estimate : x.estimate ≡ x'.estimate = ap (λ (r : Told). r.estimate) e in
    let smallest : x.smallest ≡ x'.smallest = ap (λ (r : Told). r.smallest) e in
    let rows : x.rows_read ≡ x'.rows_read = ap (λ (r : Told). r.rows_read) e in
    let same : made x.rank x.estimate x.smallest x.stop x.rows_read ≡ made x'.rank x'.estimate x'.smallest x'.stop x'.rows_read =
    rw (rank, estimate, smallest, why, rows) in
    same

told_same : (r r' : Result Report Refusal) → told r ≡ told r' → r ≡ r'
told_same (Ok x) (Ok x') e = let z : some (told_report x) ≡ some (told_report x') = ap (λ t. t.1) e in ap Ok (report_same x x' cc)
told_same (Err r) (Err r') e = ap Err (number_same r r' (ap (λ t. t.0) e))
told_same (Ok x) (Err r) e = let values : some (told_report x) ≡ none = ap (λ t. t.1) e in cc
told_same (Err r) (Ok x) e = let values : none ≡ some (told_report x) = ap (λ t. t.1) e in cc

pub aca_partial_pivoting_determined : (rows columns : ℕ) (samples : List Float) (epsilon : Float) (restart : Bool) (lent : Memory)
    (r r' : Result Report Refusal) (after after' : Memory) →
    call (told r) after ≡ aca_call rows columns samples epsilon restart lent →
    call (told r') after' ≡ aca_call rows columns samples epsilon restart lent →
    (r ≡ r') × (after ≡ after')
aca_partial_pivoting_determined rows columns samples epsilon restart lent r r' after after' e e' =
    let same : call (told r) after ≡ call (told r') after' = coincide _ _ (aca_call rows columns samples epsilon restart lent) e e' in
    (told_same r r' (ap (λ (c : Call). c.tells) same), ap (λ (c : Call). c.leaves) same)
