-- E9's theorem needs both of its halves: blocks that agree on the listed rows alone, or on the listed columns alone, and give another
-- answer, computed in both modes. Assumes nothing.
use mathlib.Core.Path.{◌≡◌, refl, sym, ap, subst, ◌∙◌}
use mathlib.Core.Bool.{Bool, true, false}
use mathlib.Core.List.{List, [], ◌∷◌}
use Prim.Native.Nat.{ℕ, zero, suc, ◌<◌}
use native.Mathlib.Omega.{arith}
use lib.Count.{count_trailing_zeros}
use lib.Ieee.{Float, add, sub, mul, div, neg, lt, eq, le, is_nan, of_int, of_bits, of_fields, odd, units, round, sum, size as digits}
use lib.Ieee.{span, climb}
use lib.ListN.{length, get_or}
use Rattle.common.specs.Floats.{zero₆₄, one₆₄, two₆₄, size, sums}
use Rattle.common.specs.Tests.{any, lowest}
use Rattle.common.proofs.Cases.{not_both}
use Rattle.aca_pivots.specs.Largest.{best, argmax, pivot}
use Rattle.aca_lines.specs.Lines.{residual, multiplied, norm, cross}
use Rattle.aca_progress.specs.Crosses.{unread, row_read, column_read, lesser, grown, weighed, stored, elsewhere, onward, without, usable}
use Rattle.aca_progress.specs.Crosses.{judged, accepted, tried, step}
use Rattle.aca_steps.specs.Memories.{Memory}
use Rattle.aca.specs.Runs.{Finish, followed, run, approximation}
use Rattle.aca.specs.Unseen.{SameRow, SameColumn}
use Rattle.fixed.specs.Results.{four, lent}
use Rattle.fixed.specs.Requests.{RowsAlone, ColumnsAlone}

-- rows (1,0),(0,0); rows (1,0),(1,0); and rows (1,1),(0,0)
abbrev corner : List Float
corner = four one₆₄ zero₆₄ zero₆₄ zero₆₄

abbrev tall : List Float
tall = four one₆₄ one₆₄ zero₆₄ zero₆₄

abbrev wide : List Float
wide = four one₆₄ zero₆₄ one₆₄ zero₆₄

abbrev there : Memory
there = lent zero₆₄ 0

-- what a run on each says at epsilon 1
record Said (restart : Bool) : Type 0 where
  corner_rows : (approximation 2 2 corner one₆₄ restart there).found.rows ≡ 0 ∷ []
  corner_columns : (approximation 2 2 corner one₆₄ restart there).found.columns ≡ 0 ∷ []
  corner_estimate : (approximation 2 2 corner one₆₄ restart there).state.estimate ≡ one₆₄
  tall_estimate : (approximation 2 2 tall one₆₄ restart there).state.estimate ≡ two₆₄
  wide_estimate : (approximation 2 2 wide one₆₄ restart there).state.estimate ≡ two₆₄

said : (restart : Bool) → Said restart
unfolding size sums any lowest best argmax pivot residual multiplied norm cross unread row_read column_read lesser grown
    weighed stored elsewhere onward without usable judged accepted tried step followed run approximation
    count_trailing_zeros add sub mul div neg lt eq le is_nan of_int of_bits of_fields odd units round sum digits span climb
said false =
    record {
      corner_rows = refl;
      corner_columns = refl;
      corner_estimate = refl;
      tall_estimate = refl;
      wide_estimate = refl;
    }
said true =
    record {
      corner_rows = refl;
      corner_columns = refl;
      corner_estimate = refl;
      tall_estimate = refl;
      wide_estimate = refl;
    }

one_not_two : one₆₄ ≡ two₆₄ → ⊥
unfolding lt of_bits of_fields units
one_not_two e = let z : true ≡ false = ap (λ (x : Float). lt x two₆₄) e in not_both refl z

-- a list of 0 alone has nothing but 0 in it
only : (l : List ℕ) → l ≡ 0 ∷ [] → (k : ℕ) → k < length l → 0 ≡ get_or l k 0
only l e zero h = rw e
only l e (suc k) h = absurd (let h' : suc k < 1 = subst (λ (z : List ℕ). suc k < length z) e h in omega arith)

row_0 : SameRow 2 2 corner tall 0
row_0 zero h = refl
row_0 (suc zero) h = refl
row_0 (suc (suc j)) h = absurd (omega arith)

column_0 : SameColumn 2 2 corner wide 0
column_0 zero h = refl
column_0 (suc zero) h = refl
column_0 (suc (suc i)) h = absurd (omega arith)

pub rows_not_enough : (restart : Bool) → RowsAlone restart → ⊥
rows_not_enough restart h =
    let s = said restart in
    let same = h 2 2 corner tall one₆₄ there (λ k l. subst (SameRow 2 2 corner tall) (only _ s.corner_rows k l) row_0) in
    one_not_two (sym s.corner_estimate ∙ ap (λ (e : Finish). e.state.estimate) same ∙ s.tall_estimate)

pub columns_not_enough : (restart : Bool) → ColumnsAlone restart → ⊥
columns_not_enough restart h =
    let s = said restart in
    let same = h 2 2 corner wide one₆₄ there (λ k l. subst (SameColumn 2 2 corner wide) (only _ s.corner_columns k l) column_0) in
    one_not_two (sym s.corner_estimate ∙ ap (λ (e : Finish). e.state.estimate) same ∙ s.wide_estimate)
