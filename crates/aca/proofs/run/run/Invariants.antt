-- `aca::run::run` meets its contract. The loop keeps: what is left of the run, from where the memory stands, is the
-- whole run. Assumes nothing.
use mathlib.Core.Path.{◌≡◌}
use lib.ListN.{length}
use Rattle.aca_steps.specs.Memories.{memory}
use Rattle.aca.proofs.Repeated.{Going}
use Rattle.aca.specs.Runs.{steps_of}
use Rattle.aca.proofs.run.run.Given as goal

abbrev pub invariant-loop-read : goal.invariant-loop-read
invariant-loop-read l =
    (l.rows ≡ length l.initial.column) × (l.most ≡ steps_of (length l.initial.row_list) (length l.initial.column_list)) ×
    Going l.samples l.tolerance l.restart
    (memory l.initial.u l.initial.v l.initial.row_list l.initial.column_list l.initial.row l.initial.column)
    (memory l.u l.v l.row_list l.column_list l.row l.column)
    l.row_flags.words l.column_flags.words l.s l.read l.low
