-- The run in memory is the rule's: after so many steps what is left of it, from where the memory stands, is the whole run. Assumes nothing.
use mathlib.Core.Path.{◌≡◌, refl, sym, ap, subst, ◌∙◌}
use mathlib.Core.List.{List}
use mathlib.Core.Bool.{Bool}
use Prim.Native.Nat.{ℕ, suc, ◌+◌, ◌-◌, ◌*◌, ◌<◌, ◌≤◌}
use native.Mathlib.Nat.{zero-mul, mul-le-mul_right}
use native.Mathlib.Omega.{arith}
use lib.Ieee.{Float}
use lib.ListN.{length, take}
use lib.Seq.{length-take-le}
use Rattle.common.proofs.Cases.{by_eq}
use Rattle.common.proofs.Matrices.{column_fits}
use Rattle.aca_progress.specs.Crosses.{Block, Found, Outcome, step}
use Rattle.aca_progress.specs.Steps.{used_up}
use Rattle.aca_steps.specs.Memories.{Memory, laid, block_of}
use Rattle.aca_progress.specs.Working.{RowsKnown}
use Rattle.aca_steps.specs.Standing.{standing, Marks, Ready, made, Stepped}
use Rattle.aca_progress.specs.declared.Progress.{Progress}
use Rattle.aca_progress.specs.declared.Reading.{Reading}
use Rattle.aca_progress.specs.Steps.{Step, More, Stop}
use Rattle.aca_steps.proofs.Fronts.{upon_upon, take_upon}
use Rattle.aca_progress.proofs.Ways.{Counts, Took, step_took}
use Rattle.aca.specs.Runs.{Finish, finish, followed, run, steps_of, begin, reported, report, start}
use Rattle.aca.specs.Working.{Begun, ran, Ran}

-- WHAT IS LAID OVER LENT MEMORY

laid_laid : (f f' : Found) (t : Memory) → length f.us ≤ length f'.us → length f.vs ≤ length f'.vs →
    length f.rows ≤ length f'.rows →
    length f.columns ≤ length f'.columns → laid f' (laid f t) ≡ laid f' t
unfolding laid
laid_laid f f' t hu hv hr hc =
    rw (
      upon_upon f.us f'.us t.us hu,
      upon_upon f.vs f'.vs t.vs hv,
      upon_upon f.rows f'.rows t.row_list hr,
      upon_upon f.columns f'.columns t.column_list hc,
    )

module _ (b : Block) (r k : ℕ) (f : Found) (t : Memory) (c : Counts b r k f) where
  standing_laid : length f.column ≡ b.rows → length f.row ≡ b.columns → standing r k (laid f t) ≡ f
  unfolding laid
  standing_laid hm hn =
      rw (
        hm,
        hn,
        take_upon (k * b.rows) f.us t.us c.us_long,
        take_upon (k * b.columns) f.vs t.vs c.vs_long,
        take_upon r f.rows t.row_list c.rows_long,
        take_upon k f.columns t.column_list c.columns_long,
      )

  -- what is found over what was found before it
  laid_over : (r' k' : ℕ) (f' : Found) → Counts b r' k' f' → r ≤ r' → k ≤ k' → laid f' (laid f t) ≡ laid f' t
  laid_over r' k' f' c' hr hk =
      let us : length f.us ≤ length f'.us = rw (c.us_long, c'.us_long) (mul-le-mul_right b.rows hk) in
      let vs : length f.vs ≤ length f'.vs = rw (c.vs_long, c'.vs_long) (mul-le-mul_right b.columns hk) in
      laid_laid f f' t us vs (omega (arith, c.rows_long, c'.rows_long)) (omega (arith, c.columns_long, c'.columns_long))

module _ (f : Found) (t t' : Memory) (e : t' ≡ laid f t) where
  column_of : length f.column ≡ length t'.column
  unfolding laid
  column_of = ap (λ (x : Memory). length x.column) (sym e)

  row_of : length f.row ≡ length t'.row
  unfolding laid
  row_of = ap (λ (x : Memory). length x.row) (sym e)

-- THE LOOP

-- the lengths of lent memory stay
pub record Alike (t t' : Memory) : Type 0 where
  pub us_same : length t'.us ≡ length t.us
  pub vs_same : length t'.vs ≡ length t.vs
  pub rows_same : length t'.row_list ≡ length t.row_list
  pub columns_same : length t'.column_list ≡ length t.column_list
  pub row_same : length t'.row ≡ length t.row
  pub column_same : length t'.column ≡ length t.column

pub alike_both : (t t' t'' : Memory) → Alike t t' → Alike t' t'' → Alike t t''
alike_both t t' t'' h l =
    record {
      us_same = l.us_same ∙ h.us_same;
      vs_same = l.vs_same ∙ h.vs_same;
      rows_same = l.rows_same ∙ h.rows_same;
      columns_same = l.columns_same ∙ h.columns_same;
      row_same = l.row_same ∙ h.row_same;
      column_same = l.column_same ∙ h.column_same;
    }

-- where a step is left, the row list has a place for it, and there can be a term
pub steps_left : (places terms read : ℕ) → read < steps_of places terms → (read < places) × (0 < terms)
steps_left places terms read = by_eq terms 0 (λ z e. rw e (λ l. absurd (omega arith))) (λ z e. rw e (λ l. (l, omega arith)))

module _ (samples : List Float) (tolerance : Float) (restart : Bool) (t₀ : Memory) where
  abbrev most : ℕ
  most = steps_of (length t₀.row_list) (length t₀.column_list)

  abbrev block : Block
  block = block_of (length t₀.column) (length t₀.row) samples

  abbrev whole : Finish
  whole = ran samples tolerance restart t₀

  -- what the loop keeps after so many rows were read
  pub record Going (t : Memory) (rows columns : List ℕ) (s : Progress) (read low : ℕ) : Type 0 where
    pub within : read ≤ most
    pub term : read < most → s.rank < length t₀.column_list
    pub row_in : read < most → s.next < length t₀.column
    pub known : read < most → RowsKnown low (length t₀.column) rows
    pub alike : Alike t₀ t
    pub rest : run (most - read) restart block tolerance s (standing read s.rank t) ≡ whole
    pub kept : t ≡ laid (standing read s.rank t) t₀
    pub rows_marked : Marks rows (take read t.row_list)
    pub columns_marked : Marks columns (take s.rank t.column_list)

  module _ (rows columns : List ℕ) (b : Begun (length samples) t₀ rows columns) where
    -- where a step is left, the block has rows and columns
    some_rows : 0 < most → (0 < length t₀.column) × (0 < length t₀.row)
    some_rows l =
        let terms = (steps_left (length t₀.row_list) (length t₀.column_list) 0 l).1 in
        (omega (arith, b.sizes.terms), omega (arith, b.sizes.terms))

    pub going_none : Going t₀ rows columns begin 0 0
    unfolding laid
    going_none =
        let none : standing 0 0 t₀ ≡ start t₀ = rw (zero-mul (length t₀.column), zero-mul (length t₀.row)) in
        let all : most - 0 ≡ most = omega arith in
        record {
          within = omega arith;
          term = λ h. (steps_left (length t₀.row_list) (length t₀.column_list) 0 h).1;
          row_in = λ h. (some_rows h).0;
          known = λ h. record {
            some = (some_rows h).0;
            tall = b.sizes.tall;
            low_most = omega arith;
            below = λ k l. absurd (omega (arith, l));
          };
          alike = record { us_same = refl; vs_same = refl; rows_same = refl; columns_same = refl; row_same = refl; column_same = refl };
          rest = rw (none, all);
          kept = ap (λ (f : Found). laid f t₀) (sym none);
          rows_marked = b.rows_marked;
          columns_marked = b.columns_marked;
        }

    module _ (t : Memory) (rows' columns' : List ℕ) (s : Progress) (read low : ℕ) (g : Going t rows' columns' s read low) where
      most_places : most ≤ length t₀.row_list
      most_places = by_eq (length t₀.column_list) 0 (λ z e. rw e (omega arith)) (λ z e. rw e (omega arith))

      rows_long : length (take read t.row_list) ≡ read
      rows_long = length-take-le read t.row_list (omega (arith, g.within, most_places, g.alike.rows_same))

      -- no step is left
      pub ends : most ≤ read → Ran whole t₀ (reported used_up s read) t
      unfolding run report
      ends h =
          let none : most - read ≡ 0 = omega arith in
          let last : finish used_up s (standing read s.rank t) ≡ whole = rw none at g.rest in
          rw (← last) record { report_is = rw rows_long; memory_is = g.kept }

      -- a step is
      module _ (l : read < most) where
        abbrev f : Found
        f = standing read s.rank t

        -- how the row is read
        abbrev reading : Reading
        reading = record { restart = restart; read = read; low = low }

        left : (read < length t₀.row_list) × (0 < length t₀.column_list)
        left = steps_left (length t₀.row_list) (length t₀.column_list) read l

        pub ready : Ready (length samples) t reading s rows' columns'
        ready =
            let z = b.sizes in
            let a = g.alike in
            record {
              sizes =
                  record {
                    tall = rw a.column_same z.tall;
                    wide = rw a.row_same z.wide;
                    block = rw (a.column_same, a.row_same) z.block;
                    terms = rw (a.column_same, a.row_same, a.columns_same) z.terms;
                    u_room = rw (a.column_same, a.columns_same, a.us_same) z.u_room;
                    v_room = rw (a.row_same, a.columns_same, a.vs_same) z.v_room;
                  };
              place = omega (arith, a.rows_same, left.0);
              term = omega (arith, a.columns_same, g.term l);
              few = omega (arith, g.term l, z.terms, z.tall);
              row_in = rw a.column_same (g.row_in l);
              column_in = omega (arith, a.row_same, left.1, z.terms);
              known = rw a.column_same (g.known l);
              rows_marked = g.rows_marked;
              columns_marked = g.columns_marked;
            }

        -- the step that the rule makes next
        abbrev o : Outcome
        o = step restart block tolerance s f

        next : followed o.answer o.found (run (most - (read + 1)) restart block tolerance) ≡ whole
        unfolding run
        next = let one : most - read ≡ suc (most - (read + 1)) = omega arith in rw one at g.rest

        counts : Counts block read s.rank f
        counts =
            let a = g.alike in
            let z = b.sizes in
            let term = g.term l in
            let left = column_fits s.rank (length t₀.column_list) (length t₀.column) _ term refl in
            let right = column_fits s.rank (length t₀.column_list) (length t₀.row) _ term refl in
            record {
              rows_long = rows_long;
              columns_long = length-take-le s.rank t.column_list (omega (arith, a.columns_same));
              us_long = rw a.column_same (length-take-le _ t.us (omega (arith, a.us_same, z.u_room)));
              vs_long = rw a.row_same (length-take-le _ t.vs (omega (arith, a.vs_same, z.v_room)));
            }

        took : Took restart block read s.rank o.answer o.found
        took = step_took restart block tolerance s f read (omega (arith, g.term l, b.sizes.terms)) counts

        module _ (r : Step) (t' : Memory) (rows'' columns'' : List ℕ)
            (d : Stepped low (made samples tolerance reading s t) t r t' rows'' columns'') where
          -- the step is that of the block's own run
          done : Stepped low o t r t' rows'' columns''
          done =
              let same : block_of (length t.column) (length t.row) samples ≡ block = rw (g.alike.column_same, g.alike.row_same) in
              subst (λ (x : Block). Stepped low (step restart x tolerance s f) t r t' rows'' columns'') same d

          over_all : t' ≡ laid o.found t₀
          over_all =
              done.memory_is ∙ ap (laid o.found) g.kept
              ∙ laid_over block read s.rank f t₀ counts (read + 1) _ o.found took.counts (omega arith) took.least

          pub stops : (w : ℕ) (s' : Progress) → r ≡ Stop w s' → Ran whole t₀ (reported w s' (read + 1)) t'
          unfolding followed report
          stops w s' e =
              let answer : o.answer ≡ Stop w s' = sym done.answer_is ∙ e in
              let last : finish w s' o.found ≡ whole = rw answer at next in
              rw (← last) record { report_is = rw took.counts.rows_long; memory_is = over_all }

          -- what is known of the rows after it
          pub known_after : RowsKnown low (length t₀.column) rows''
          known_after = rw g.alike.column_same at done.known

          pub goes : (s' : Progress) (low' : ℕ) → r ≡ More s' → RowsKnown low' (length t₀.column) rows'' → Alike t t' →
              Going t' rows'' columns'' s' (read + 1) low'
          unfolding followed
          goes s' low' e still same =
              let answer : o.answer ≡ More s' = sym done.answer_is ∙ e in
              let onward : Took restart block read s.rank (More s') o.found = rw answer at took in
              let all = alike_both t₀ t t' g.alike same in
              let stands : standing (read + 1) s'.rank t' ≡ o.found =
              ap (standing (read + 1) s'.rank) done.memory_is
              ∙ standing_laid block (read + 1) s'.rank o.found t onward.counts
              (column_of o.found t t' done.memory_is ∙ all.column_same) (row_of o.found t t' done.memory_is ∙ all.row_same) in
              record {
                within = omega arith;
                term = λ _. omega (arith, onward.goes.0, b.sizes.terms);
                row_in = λ _. onward.goes.1;
                known = λ _. still;
                alike = all;
                rest = rw stands (rw answer at next);
                kept = over_all ∙ ap (λ (x : Found). laid x t₀) (sym stands);
                rows_marked = subst (λ (x : Found). Marks rows'' x.rows) (sym stands) done.rows_marked;
                columns_marked = subst (λ (x : Found). Marks columns'' x.columns) (sym stands) done.columns_marked;
              }
