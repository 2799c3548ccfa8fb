-- What a result with a fault says, as an outcome of the format; and an optional value, as the definitions of the format have it.
use Rattle.std.specs.Prelude.{Result, Ok, Err, Some, None}
use Rattle.std.specs.Prelude.{Option as Answer}
use Rattle.std.proofs.Math.Option.{Option, some, none}
use Rattle.common.specs.Numbers.{number}
use Rattle.exchange_format.specs.Reading.{Outcome, refuse, give}
use Rattle.exchange_format.specs.declared.Fault.{Fault}

module _ {A : Type 0} where
  abbrev pub outcome : Result A Fault → Outcome A
  outcome (Ok a) = give a
  outcome (Err f) = refuse (number f.refusal) f.line

module _ {A B : Type 0} where
  abbrev pub found : (A → B) → Answer A → Option B
  found f None = none
  found f (Some a) = some (f a)
