-- `choices::cutoff::calculate_singular_values_cutoff` meets its contract: each return by the tests that led there. Assumes nothing.
use mathlib.Core.Path.{ap, ◌∙◌}
use Prim.Native.Nat.{ℕ, ◌≤◌}
use native.Mathlib.Omega.{arith}
use lib.ListN.{length}
use borrow.Author.Tests.{le-leb, lt-leb}
use Rattle.std.specs.Prelude.{Ok}
use Rattle.common.specs.Numbers.{told}
use Rattle.common.specs.Refusals.{most_entries}
use Rattle.common.proofs.Cases.{inside}
use Rattle.choices.specs.Cutoff.{cutoff, cutoff_number, cutoff_call}
use Rattle.choices.proofs.cutoff.calculate_singular_values_cutoff.Goals.{then-n-eq0-via-then-n-eq0}
use Rattle.choices.proofs.cutoff.calculate_singular_values_cutoff.Goals.{then-n-eq0-via-else-n-eq0+then-n-gt-MOST_ENTRIES}
use Rattle.choices.proofs.cutoff.calculate_singular_values_cutoff.Goals as goal

pub returns-then-n-eq0 : goal.returns-then-n-eq0
unfolding cutoff_call cutoff_number cutoff
returns-then-n-eq0 c =
    let n = length c.args.values.now in
    elim c.then-n-eq0.branch [
      | then-n-eq0-via-then-n-eq0 w ↦ rw w.if-n-eq0.true
      | then-n-eq0-via-else-n-eq0+then-n-gt-MOST_ENTRIES w ↦
          let some : 1 ≤ n = omega (arith, w.if-n-eq0.false) in
          rw (le-leb 1 n some, lt-leb n most_entries w.if-n-gt-MOST_ENTRIES.true)
    ]

pub returns : goal.returns
unfolding cutoff_call cutoff_number cutoff
returns c =
    let few = inside 1 most_entries _ (omega (arith, c.if-n-eq0.false)) c.if-n-gt-MOST_ENTRIES.false in
    rw few (ap (λ (k : ℕ). told (Ok k)) (c.first_below.ensures ∙ rw c.sum_squares.ensures))
