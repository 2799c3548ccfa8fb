-- What an answer tells in numbers: the report of a run that was made, or a refusal's number.
use Rattle.std.specs.Prelude.{ℕ, Float, Result, Ok, Err}
use Rattle.std.proofs.Math.Option.{Option, none, some}
use Rattle.common.specs.declared.refusals.Refusal.{Refusal}
use Rattle.common.specs.Numbers.{number}
use Rattle.aca_progress.specs.Steps.{stop_number}
use Rattle.aca.specs.declared.Report.{Report as Made}

pub record Report : Type 0 where
  pub rank : ℕ
  pub estimate : Float
  pub smallest : Float
  pub stop : ℕ
  pub rows_read : ℕ

abbrev pub told_report : Made → Report
told_report r =
    record { rank = r.rank; estimate = r.estimate; smallest = r.smallest; stop = stop_number r.stop; rows_read = r.rows_read }

abbrev pub told : Result Made Refusal → ℕ × Option Report
told (Ok r) = (0, some (told_report r))
told (Err r) = (number r, none)
