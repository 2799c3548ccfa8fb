-- The fixed results hold: each is computed from the definitions. Assumes nothing.
use mathlib.Core.Path.{refl}
use lib.Count.{count_trailing_zeros}
use lib.Ieee.{add, sub, mul, div, neg, lt, le, is_nan, of_bits, of_fields, of_int, odd, units, round, sum, size as digits, span, climb}
use Rattle.common.specs.Digits.{from_digits, digit}
use Rattle.common.specs.Floats.{size, sums}
use Rattle.common.specs.Matrices.{column_major}
use Rattle.common.specs.Refusals.{left}
use Rattle.common.specs.Tests.{each, those, count}
use Rattle.common.specs.Factorials.{factorial}
use Rattle.vectors.specs.Order.{skip, unskip, axis, place, largest, axis_order, sorted}
use Rattle.vectors.specs.Vectors.{index, case, at_most, near, is_reference, references, entry, far_reference, reference_of}
use Rattle.turn_tables.specs.Turned.{reversed, negative, axis_of, place_of, turned_index, turned, returned_index, returned}
use Rattle.turn.specs.Tables.{table_number, table_call}
use Rattle.vectors.specs.LookUps.{look_up_number, known_of, look_up}
use Rattle.polynomial_columns.specs.Recurrence.{T, T'}
use Rattle.chebyshev.specs.Polynomials.{polynomials_number, polynomials_call}
use Rattle.passes.specs.Passes.{passed, directed}
use Rattle.transfer.specs.Tensor.{operator_half, along, ends, transfer_number, transferred, transfer_call}
use Rattle.aca_pivots.specs.Largest.{best, argmax, pivot, counts}
use Rattle.choices.specs.Argmax.{is_mask, argmax_number, argmax_call}
use Rattle.aca_lines.specs.Lines.{residual, multiplied, norm, cross}
use Rattle.aca_progress.specs.Crosses.{unread, row_read, column_read, lesser, grown, weighed, stored, onward, without, usable, judged}
use Rattle.aca_progress.specs.Crosses.{accepted, tried, step}
use Rattle.choices.specs.Cutoff.{squares, first_below, cutoff, cutoff_number, cutoff_call}
use Rattle.aca_steps.specs.Memories.{laid}
use Rattle.aca.specs.Runs.{followed, run, report, fits, aca_number, approximation, aca_call}
use Rattle.fixed.specs.Results.{Fixed}

pub fixed : Fixed
unfolding from_digits digit sums column_major left each those count factorial skip unskip axis place largest axis_order sorted index case
    at_most near is_reference references entry far_reference reference_of reversed negative axis_of place_of turned_index turned returned_index
    returned table_number table_call look_up_number known_of look_up T T' polynomials_number polynomials_call passed directed operator_half along
    ends transfer_number transferred transfer_call size best argmax pivot counts is_mask argmax_number argmax_call residual multiplied unread
    row_read column_read norm cross lesser grown weighed onward without usable judged stored accepted tried step squares first_below
    cutoff cutoff_number cutoff_call followed run report laid fits aca_number approximation aca_call count_trailing_zeros add sub mul div neg lt le
    is_nan of_bits of_fields of_int odd units
    round sum digits span climb
fixed =
    record {
      vector_158 = refl;
      vector_0 = refl;
      vector_48 = refl;
      vector_30 = refl;
      table = λ i. refl;
      inverse = λ i. refl;
      polynomials = λ x. refl;
      m2m = λ a b c d x. refl;
      l2l = λ a b c d x. refl;
      argmax_all = refl;
      argmax_masked = refl;
      cutoff_half = refl;
      cutoff_three_quarters = refl;
      cutoff_two = refl;
      cutoff_ones = refl;
      cutoff_zeros = refl;
      cross_1 = λ x i. refl;
      cross_half = λ x i. refl;
      cross_unit = λ x i. refl;
    }
