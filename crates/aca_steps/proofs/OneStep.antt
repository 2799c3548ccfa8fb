-- A step in memory is a step of the rule, in either mode: where the row has no usable pivot, and where it has one. Assumes nothing.
use mathlib.Core.Path.{◌≡◌, refl, sym, ap, subst, ◌∙◌}
use mathlib.Core.Bool.{Bool, true, false}
use mathlib.Core.List.{List, [], ◌∷◌, ◌++◌}
use Prim.Native.Nat.{ℕ, ◌+◌, ◌*◌, ◌<◌, ◌≤◌}
use native.Mathlib.Omega.{arith}
use lib.Ieee.{Float, nan}
use lib.ListN.{length, set, take}
use Rattle.common.specs.Refusals.{most_entries}
use Rattle.common.proofs.Fill.{length_tabulate}
use Rattle.common.proofs.Matrices.{column_fits}
use Rattle.aca_pivots.specs.Flags.{is_on, cleared}
use Rattle.aca_pivots.specs.Largest.{argmax, pivot}
use Rattle.aca_lines.specs.Lines.{residual, row_less, column_less, multiplied, norm, cross}
use Rattle.aca_pivots.specs.declared.Pivot.{Pivot}
use Rattle.aca_pivots.proofs.Largest.{argmax_in}
use Rattle.common.specs.Matrices.{matrix}
use Rattle.aca_progress.specs.Crosses.{Block, most, Found, found, unread, row_read, column_read, noted, grown, weighed, stored, without}
use Rattle.aca_progress.specs.Crosses.{usable, judged, outcome, accepted, tried, step}
use Rattle.aca_steps.specs.Memories.{Memory, memory, laid, block_of}
use Rattle.aca_progress.specs.Working.{RowsKnown, usable_here}
use Rattle.aca_steps.specs.Standing.{standing, Marks, Ready, made, Stepped}
use Rattle.aca_steps.specs.Working.{RowFits, Lent, TermFits, TermStored}
use Rattle.aca_progress.specs.declared.Progress.{Progress}
use Rattle.aca_progress.specs.declared.Reading.{Reading}
use Rattle.aca_progress.specs.Steps.{Step}
use Rattle.aca_steps.proofs.Fronts.{upon_same, upon_stretch, upon_set}
use Rattle.aca_progress.proofs.Chosen.{usable_here_lem}
use Rattle.aca_steps.proofs.Marked.{marks_more, known_more, pivot_unread, argmax_unread, without_cong, judged_cong}
use Rattle.aca_steps.proofs.Terms.{residual_front, cross_front}

module _ (samples : List Float) (tolerance : Float) (g : Reading) (s : Progress) (t : Memory) (rows columns : List ℕ)
    (ready : Ready (length samples) t g s rows columns) where
  abbrev read : ℕ
  read = g.read

  abbrev restart : Bool
  restart = g.restart

  abbrev k : ℕ
  k = s.rank

  abbrev m : ℕ
  m = length t.column

  abbrev n : ℕ
  n = length t.row

  abbrev block : Block
  block = block_of m n samples

  -- there is room for one more term
  u_room : k * m + m ≤ length t.us
  u_room = omega (arith, column_fits k (length t.column_list) m _ ready.term refl, ready.sizes.u_room)

  v_room : k * n + n ≤ length t.vs
  v_room = omega (arith, column_fits k (length t.column_list) n _ ready.term refl, ready.sizes.v_room)

  pub row_fits : RowFits (length samples) m s.next k read t.us t.vs t.row t.row_list
  row_fits =
      record {
        inside = ready.row_in;
        tall = ready.sizes.tall;
        wide = ready.sizes.wide;
        place = ready.place;
        block = ready.sizes.block;
        u_long = omega (arith, u_room);
        v_long = omega (arith, v_room);
      }

  -- a row has been read: w is its residual, and p its pivot
  module _ (w : List Float) (p : Pivot) (rows' list' : List ℕ) (row_is : w ≡ row_less m n samples t.us t.vs k s.next)
      (pivot-is : p ≡ pivot w (is_on columns)) (rows_are : rows' ≡ cleared rows s.next)
      (list_is : list' ≡ set t.row_list read s.next) where
    row_long : length w ≡ n
    unfolding residual
    row_long = ap length row_is ∙ length_tabulate _ _

    pivot_in : p.place < length w
    unfolding pivot
    pivot_in = rw pivot-is (argmax_in w (is_on columns) (rw row_long ready.column_in))

    pub place_in : p.place < most_entries
    place_in = omega (arith, pivot_in, row_long, ready.sizes.wide)

    -- the state with it; and what is lent for the term
    abbrev with_pivot : Progress
    with_pivot = noted s p.size

    abbrev room : Lent
    room = record { us = t.us; vs = t.vs; flags = columns; list = t.column_list; row = w; column = t.column }

    pub term_fits : (s' : Progress) → s' ≡ with_pivot → TermFits (length samples) s'.rank p.place room
    term_fits s' e =
        rw e
        record {
          inside = pivot_in;
          tall = ready.sizes.tall;
          wide = rw row_long ready.sizes.wide;
          place = ready.term;
          few = ready.few;
          block = rw row_long ready.sizes.block;
          u_room = u_room;
          v_room = rw row_long v_room;
        }

    -- the rows and the columns read before this step, and this row
    abbrev is : List ℕ
    is = take read t.row_list ++ s.next ∷ []

    abbrev js : List ℕ
    js = take k t.column_list

    abbrev us : List Float
    us = take (k * m) t.us

    abbrev vs : List Float
    vs = take (k * n) t.vs

    abbrev after_row : Found
    after_row = found us vs is js w t.column

    row_read_lem : row_read block s (standing read k t) ≡ after_row
    unfolding row_read
    row_read_lem =
        ap (λ (l : List Float). found us vs is js l t.column)
        (residual_front n m k s.next (matrix m samples s.next) t.vs t.us ready.row_in ∙ sym row_is)

    -- its pivot among the unread columns is the flags' own
    same_pivot : pivot w (unread js) ≡ p
    same_pivot = sym (pivot_unread w columns js (rw row_long ready.sizes.wide) ready.columns_marked) ∙ sym pivot-is

    step_is : made samples tolerance g s t ≡ tried restart block tolerance s after_row p
    unfolding step
    step_is =
        ap (λ (f : Found). tried restart block tolerance s f (pivot f.row (unread f.columns))) row_read_lem
        ∙ ap (tried restart block tolerance s after_row) same_pivot

    -- and what is asked of it says whether it is usable
    asked : usable restart w (unread js) p ≡ usable_here restart (is_on columns) p
    asked =
        let on : is_on columns p.place ≡ unread js p.place = ready.columns_marked p.place place_in in
        subst (λ (q : Pivot). usable restart w (unread js) q ≡ usable_here restart (unread js) q) same_pivot
        (usable_here_lem w (unread js) restart (rw row_long ready.column_in))
        ∙ rw on

    -- the flags of the rows say so too
    rows_more : Marks (cleared rows s.next) is
    rows_more = marks_more rows (take read t.row_list) s.next ready.rows_marked

    marked : (k : ℕ) → k < m → is_on rows' k ≡ unread is k
    marked k b = rw rows_are (rows_more k (omega (arith, ready.sizes.tall)))

    pub known : RowsKnown g.low m rows'
    known = rw rows_are (known_more g.low m rows s.next ready.known)

    -- it has no usable pivot
    pub stopped : (r : Step) → usable_here restart (is_on columns) p ≡ false → r ≡ without restart m (is_on rows') s →
        Stepped g.low (made samples tolerance g s t) t r (memory t.us t.vs list' t.column_list w t.column) rows' columns
    unfolding tried laid
    stopped r bare answer =
        let unusable : usable restart w (unread js) p ≡ false = asked ∙ bare in
        rw (step_is, unusable)
        record {
          answer_is = answer ∙ without_cong m (is_on rows') (unread is) marked s restart;
          memory_is =
              let u_long : k * m ≤ length t.us = omega (arith, u_room) in
              let v_long : k * n ≤ length t.vs = omega (arith, v_room) in
              let some : k ≤ length t.column_list = omega (arith, ready.term) in
              rw (
                ← upon_same (k * m) t.us u_long,
                ← upon_same (k * n) t.vs v_long,
                ← upon_same k t.column_list some,
                ← upon_set read s.next t.row_list ready.place,
                list_is,
              );
          known = known;
          rows_marked = rw rows_are rows_more;
          columns_marked = ready.columns_marked;
        }

    -- it has one: the column through it has been read, and the two are stored
    module _ (s' : Progress) (state-is : s' ≡ with_pivot) (r : Step) (l : Lent)
        (stored_is : TermStored samples tolerance restart s' p.place rows' room r l) where
      term_is : TermStored samples tolerance restart with_pivot p.place rows' room r l
      term_is = subst (λ (q : Progress). TermStored samples tolerance restart q p.place rows' room r l) state-is stored_is

      abbrev j : ℕ
      j = p.place

      abbrev x : List Float
      x = l.column

      abbrev v : List Float
      v = l.row

      column_is : x ≡ column_less m n samples t.us t.vs k j
      column_is = rw row_long at term_is.taken.column_is

      column_long : length x ≡ m
      unfolding residual
      column_long = ap length column_is ∙ length_tabulate _ _

      v_long : length v ≡ n
      unfolding multiplied
      v_long = ap length term_is.taken.row_is ∙ length_tabulate _ _ ∙ row_long

      abbrev after_column : Found
      after_column = found us vs is (js ++ j ∷ []) v x

      column_read_lem : column_read block s after_row j ≡ after_column
      unfolding column_read
      column_read_lem =
          let inside : j < n = rw row_long at pivot_in in
          rw (← term_is.taken.row_is)
          (ap (found us vs is (js ++ j ∷ []) v) (residual_front m n k j (λ i. matrix m samples i j) t.us t.vs inside ∙ sym column_is))

      weighed_is : weighed with_pivot after_column ≡ grown with_pivot (norm x v) (cross k t.us t.vs x v) (argmax x (is_on rows'))
      unfolding weighed
      weighed_is =
          let shared : cross k us vs x v ≡ cross k t.us t.vs x v = rw (column_long, v_long) at (cross_front k t.us t.vs x v) in
          let next : argmax x (is_on (cleared rows s.next)) ≡ argmax x (unread is) =
          argmax_unread x (cleared rows s.next) is (rw column_long ready.sizes.tall) rows_more in
          rw (shared, rows_are, next)

      -- the term is judged by the flags as it is by the rule
      judged_is : judged restart m (most block) tolerance (norm x v) (unread is) (weighed with_pivot after_column) ≡ r
      unfolding grown
      judged_is =
          let next : argmax x (is_on rows') < m = rw column_long at (argmax_in x (is_on rows') (rw column_long ready.known.some)) in
          rw (weighed_is, ← ready.sizes.terms)
          (sym
          (judged_cong m (is_on rows') (unread is) marked
          (grown with_pivot (norm x v) (cross k t.us t.vs x v) (argmax x (is_on rows'))) next restart (length
          t.column_list) tolerance (norm x v)) ∙ sym (rw column_long at term_is.answer_is))

      accepted_is : accepted restart block tolerance with_pivot after_column ≡ outcome r (stored after_column)
      unfolding accepted
      accepted_is = ap (λ (a : Step). outcome a (stored after_column)) judged_is

      pub went_on : usable_here restart (is_on columns) p ≡ true →
          Stepped g.low (made samples tolerance g s t) t r (memory l.us l.vs list' l.list v x) rows' l.flags
      unfolding tried laid stored
      went_on has =
          let large : usable restart w (unread js) p ≡ true = asked ∙ has in
          let us_are : l.us ≡ _ = rw column_long at term_is.us_are in
          let vs_are : l.vs ≡ _ = rw v_long at term_is.vs_are in
          rw (step_is, large, column_read_lem, accepted_is)
          record {
            answer_is = refl;
            memory_is =
                rw (
                  ← upon_set read s.next t.row_list ready.place,
                  ← upon_set k j t.column_list ready.term,
                  ← upon_stretch (k * m) m x t.us nan column_long u_room,
                  ← upon_stretch (k * n) n v t.vs nan v_long v_room,
                  us_are,
                  vs_are,
                  list_is,
                  term_is.taken.list_is,
                );
            known = known;
            rows_marked = rw rows_are rows_more;
            columns_marked = rw term_is.taken.flags_are (marks_more columns js j ready.columns_marked);
          }
