-- What the requests fix holds: each row is computed from the definitions. Assumes nothing.
use mathlib.Core.Path.{refl}
use lib.Count.{count_trailing_zeros}
use lib.Ieee.{add, sub, mul, div, neg, lt, eq, le, whole, is_nan, of_int, of_bits, of_fields, odd, units, round, sum, size as digits}
use lib.Ieee.{span, climb}
use Rattle.common.specs.Floats.{size, sums}
use Rattle.common.specs.Refusals.{is_cell, left, lower}
use Rattle.common.specs.Digits.{digit}
use Rattle.common.specs.Tests.{each, any, lowest, those}
use Rattle.vectors.specs.Vectors.{is_reference, references, entry}
use Rattle.roots.specs.Values.{floor_root, nearest_root, root}
use Rattle.distances.specs.Distances.{added}
use Rattle.coordinates.specs.Coordinates.{all_finite, coordinate_in, in_cell, all_in_cell, points_number}
use Rattle.coefficients.specs.Before.{coefficients_number, coefficients_call, lengths_fit}
use Rattle.airs.specs.Airs as airs
use Rattle.ratios.specs.Ratios as ratios
use Rattle.exchange_format.specs.Lines.{onto, lines, before, from, past, all, same}
use Rattle.exchange_format.specs.Words.{small, is_first, is_passed, value_from, numeral, size as size_of, entry as entry_of}
use Rattle.exchange_format.specs.Reading.{entries, size_line, opening, verdict, reading}
use Rattle.exchange_format.specs.Writing.{whole_of, wholes, writing}
use Rattle.exchange_format.specs.Calls.{size_call, read_call, write_call}
use Rattle.aca_pivots.specs.Largest.{best, argmax, pivot}
use Rattle.aca_lines.specs.Lines.{residual, multiplied, norm, cross}
use Rattle.aca_progress.specs.Crosses.{unread, row_read, column_read, lesser, grown, weighed, stored, elsewhere, onward, without, usable}
use Rattle.aca_progress.specs.Crosses.{judged, accepted, tried, step}
use Rattle.aca_steps.specs.Memories.{laid}
use Rattle.aca.specs.Runs.{followed, run, report, fits, aca_number, approximation, aca_call}
use Rattle.fixed.specs.Requests.{Requested}
use Rattle.fixed.proofs.Sharp.{rows_not_enough, columns_not_enough}

pub requested : Requested
unfolding size is_cell each all_finite coordinate_in in_cell all_in_cell points_number floor_root nearest_root root added digit references entry
    is_reference those sums best argmax pivot residual multiplied norm cross any lowest unread row_read column_read lesser grown
    weighed stored elsewhere onward without usable judged accepted tried step followed run report laid fits aca_number approximation
    aca_call left
    lengths_fit coefficients_number coefficients_call lower airs.deficiency airs.ratio airs.air_of ratios.is_floor ratios.floor_number
    ratios.lengths_fit ratios.lengths_number ratios.or_last ratios.ratios_number ratios.ratios_call
    onto lines before from past all same small is_first is_passed value_from numeral size_of entry_of entries size_line opening verdict reading
    whole whole_of wholes writing size_call read_call write_call
    count_trailing_zeros add sub mul div neg lt eq le is_nan of_int of_bits of_fields odd units round sum digits span climb
requested =
    record {
      border_passes = refl;
      beyond_refused = refl;
      low_border_passes = refl;
      low_beyond_refused = refl;
      zero_root = refl;
      minus_zero_root = refl;
      infinite_root = refl;
      nan_root = refl;
      negative_root = refl;
      minus_infinite_root = refl;
      root_of_two = refl;
      root_of_least = refl;
      on_a_line = refl;
      in_a_plane = refl;
      unit_restarted = λ x i. refl;
      low_restarted = λ x i. refl;
      nan_restarted = λ x i. refl;
      nan_old = λ x i. refl;
      seven_squared = λ x i. refl;
      smallest_second = λ x i. refl;
      smallest_negative = λ x i. refl;
      smallest_infinite = λ x i. refl;
      goaf_ratio = refl;
      fresh_ratio = refl;
      fresh_none = refl;
      at_floor = refl;
      below_floor = refl;
      no_deficiency = refl;
      no_ratio = refl;
      no_floor = λ x. refl;
      cell_first = λ x i. refl;
      minus_zero = λ x. refl;
      largest_entry = λ x. refl;
      past_largest = λ x. refl;
      no_text = refl;
      no_sizes = refl;
      entry_missing = λ x. refl;
      blank_past = λ x. refl;
      minus_zero_unwritten = λ b. refl;
      rows_not_enough = rows_not_enough;
      columns_not_enough = columns_not_enough;
    }
