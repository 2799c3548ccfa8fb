-- The number that a program in C is told of a refusal, and of what a call answers.
use Rattle.std.specs.Prelude.{ℕ, Result, Ok, Err}
use Rattle.std.proofs.Math.Option.{Option, none, some}
use Rattle.common.specs.declared.refusals.Refusal.{Refusal}
use Rattle.common.specs.declared.refusals.Refusal.TheVariants as refusal
use Rattle.common.specs.Refusals.{no_dimension, no_order, no_count, no_entry, no_case, not_zero, wrong_length, no_cell, not_finite}
use Rattle.common.specs.Refusals.{no_mask, out_of_cell, no_floor, no_first_line, no_size, bad_entry, wrong_count, no_set}

abbrev pub number : Refusal → ℕ
number refusal.NoDimension = no_dimension
number refusal.NoOrder = no_order
number refusal.NoCount = no_count
number refusal.NoEntry = no_entry
number refusal.NoCase = no_case
number refusal.NotZero = not_zero
number refusal.WrongLength = wrong_length
number refusal.NoCell = no_cell
number refusal.NotFinite = not_finite
number refusal.NoMask = no_mask
number refusal.OutOfCell = out_of_cell
number refusal.NoFloor = no_floor
number refusal.NoFirstLine = no_first_line
number refusal.NoSize = no_size
number refusal.BadEntry = bad_entry
number refusal.WrongCount = wrong_count
number refusal.NoSet = no_set

module _ {A : Type 0} where
  -- the number of what a call answers, 0 being done
  abbrev pub told_number : Result A Refusal → ℕ
  told_number (Ok a) = 0
  told_number (Err r) = number r

  -- and beside it the values, where it is done
  abbrev pub told : Result A Refusal → ℕ × Option A
  told (Ok a) = (0, some a)
  told (Err r) = (number r, none)
