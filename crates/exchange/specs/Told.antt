-- What an answer tells: the refusal's number, 0 being done, its line, and the values.
use Rattle.std.specs.Prelude.{ℕ, Result}
use Rattle.std.proofs.Math.Option.{Option}
use Rattle.exchange_format.specs.Words.{Size}
use Rattle.exchange_format.specs.Calls.{answered}
use Rattle.exchange_format.specs.Faults.{outcome}
use Rattle.exchange_format.specs.declared.Fault.{Fault}
use Rattle.exchange_lines.specs.declared.sizes.Sizes.{Sizes}
use Rattle.exchange_lines.specs.Working.{size_of}

abbrev pub told_sizes : Result Sizes Fault → ℕ × ℕ × Option Size
told_sizes r = answered size_of (outcome r)

abbrev pub told_written : Result ℕ Fault → ℕ × ℕ × Option ℕ
told_written r = answered (λ n. n) (outcome r)
