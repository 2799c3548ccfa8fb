-- Cross approximation, the run in either mode: steps from row 0 on, at most as many as rows can be listed; its report; and the call.
use Rattle.std.specs.Prelude.{ℕ, zero, suc, ◌*◌, min, Bool, cond, ◌&&◌, List, [], eqb, leb, Float, length}
use Rattle.std.proofs.Math.Option.{Option}
use Rattle.common.specs.Floats.{times, zero₆₄}
use Rattle.common.specs.Refusals.{no_count, wrong_length, unless, left, most_entries, answer}
use Rattle.aca_progress.specs.Crosses.{Block, Found, found, step}
use Rattle.aca_progress.specs.Steps.{used_up}
use Rattle.aca_steps.specs.Memories.{Memory, laid, block_of}
use Rattle.aca_progress.specs.declared.Progress.{Progress}
use Rattle.aca_progress.specs.Steps.{Step, More, Stop}
use Rattle.aca.specs.declared.Lengths.{Lengths}
use Rattle.aca.specs.Reports.{Report}

-- THE RUN

-- why it ended and in what state, and what it found
pub record Finish : Type 0 where
  pub stop : ℕ
  pub state : Progress
  pub found : Found

abbrev pub finish : (stop : ℕ) → Progress → Found → Finish
finish w s f = record { stop = w; state = s; found = f }

-- after a step: the rest of the run, or its end
unfoldable pub followed : Step → Found → (rest : Progress → Found → Finish) → Finish
followed (More s) f rest = rest s f
followed (Stop w s) f rest = finish w s f

unfoldable pub run : (steps : ℕ) → (restart : Bool) → Block → (tolerance : Float) → Progress → Found → Finish
run zero restart b tolerance s f = finish used_up s f
run (suc n) restart b tolerance s f =
    let o = step restart b tolerance s f in followed o.answer o.found (run n restart b tolerance)

-- how many rows are listed: as many as there can be terms, or, in restart mode, as the block has rows
abbrev pub listed : (restart : Bool) → (m n : ℕ) → ℕ
listed restart m n = cond restart m (min m n)

-- a row is read a step, and none where there can be no term
abbrev pub steps_of : (places terms : ℕ) → ℕ
steps_of places terms = cond (eqb terms 0) 0 places

abbrev pub begin : Progress
begin = record { estimate = zero₆₄; cross = zero₆₄; smallest = zero₆₄; rank = 0; next = 0 }

abbrev pub reported : (stop : ℕ) → Progress → (rows : ℕ) → Report
reported w s n = record { rank = s.rank; estimate = s.estimate; smallest = s.smallest; stop = w; rows_read = n }

unfoldable pub report : Finish → Report
report e = reported e.stop e.state (length e.found.rows)

-- THE CALL

-- how long the samples and the lent buffers are
abbrev pub lengths : (samples : List Float) → Memory → Lengths
lengths a t =
    record {
      samples = length a;
      u = length t.us;
      v = length t.vs;
      row_list = length t.row_list;
      column_list = length t.column_list;
      row = length t.row;
      column = length t.column;
    }

-- every buffer has its length
unfoldable pub fits : (restart : Bool) → (m n : ℕ) → Lengths → Bool
fits restart m n l =
    eqb l.samples (n * m) && (eqb l.u (min m n * m) && (eqb l.v (min m n * n) && (eqb l.row_list (listed restart m n)
    && (eqb l.column_list (min m n) && (eqb l.row n && eqb l.column m)))))

unfoldable pub aca_number : (restart : Bool) → (m n : ℕ) → Lengths → ℕ
aca_number restart m n l = unless (leb m most_entries && leb n most_entries) no_count (unless (fits restart m n l) wrong_length 0)

-- nothing is found yet, and the row and the column at hand are as lent
abbrev pub start : Memory → Found
start t = found [] [] [] [] t.row t.column

unfoldable pub approximation : (m n : ℕ) → (samples : List Float) → (epsilon : Float) → (restart : Bool) → Memory → Finish
approximation m n a epsilon restart t =
    run (steps_of (listed restart m n) (min m n)) restart (block_of m n a) (times epsilon epsilon) begin (start t)

-- what a call tells, a number and a report, and the memory after it
pub record Call : Type 0 where
  pub tells : ℕ × Option Report
  pub leaves : Memory

abbrev pub call : ℕ × Option Report → Memory → Call
call r t = record { tells = r; leaves = t }

unfoldable pub aca_call : (m n : ℕ) → (samples : List Float) → (epsilon : Float) → (restart : Bool) → Memory → Call
aca_call m n a epsilon restart t =
    let e = approximation m n a epsilon restart t in
    let number = aca_number restart m n (lengths a t) in
    call (answer number (report e)) (left number (laid e.found t) t)
