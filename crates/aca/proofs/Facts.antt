-- Facts of a run: what holds of it since it holds of each step, in either mode. Assumes nothing.
use mathlib.Core.Path.{◌≡◌, refl, sym}
use mathlib.Core.Bool.{Bool, false}
use mathlib.Core.Logic.{inl, inr}
use mathlib.Core.List.{List}
use Prim.Native.Nat.{ℕ, zero, suc, ◌+◌, ◌<◌, ◌≤◌, min}
use native.Mathlib.Nat.{zero-mul}
use native.Mathlib.Omega.{arith}
use lib.Ieee.{Float}
use Rattle.common.specs.Floats.{times}
use Rattle.common.proofs.Cases.{by_eq, not_both}
use Rattle.aca_progress.specs.Crosses.{Block, most, Found, grown, weighed, stored, step}
use Rattle.aca_progress.specs.Steps.{used_up}
use Rattle.aca_steps.specs.Memories.{Memory, laid, block_of}
use Rattle.aca_progress.specs.declared.Progress.{Progress}
use Rattle.aca_progress.specs.Steps.{Step, More, Stop}
use Rattle.aca_progress.proofs.Ways.{across, down, term, Ways, by_way, Counts, counts_across, counts_term}
use Rattle.aca.specs.Runs.{Finish, finish, followed, run, listed, begin, start, approximation}
use Rattle.aca.specs.Facts.{Facts, OldFacts, RunFacts, OldRunFacts, NothingRead}

-- INDUCTION OVER A RUN: Going holds before each step, of how many steps are left, the state and what is found; Done at the end, of
-- the reason too

module _ (restart : Bool) (b : Block) (tolerance : Float) (Going : ℕ → Progress → Found → Type 0)
    (Done : ℕ → Progress → Found → Type 0) where
  abbrev pub Next : ℕ → Step → Found → Type 0
  Next n (More s) f = Going n s f
  Next n (Stop w s) f = Done w s f

  abbrev pub Ends : Finish → Type 0
  Ends e = Done e.stop e.state e.found

  by_followed : (n : ℕ) (r : Step) (f : Found) → ((s : Progress) (f : Found) → Going n s f → Ends (run n restart b tolerance s f)) →
      Next n r f → Ends (followed r f (run n restart b tolerance))
  unfolding followed
  by_followed n (More s) f rest g = rest s f g
  by_followed n (Stop w s) f rest d = d

  abbrev pub Steps : Type 0
  Steps =
      (n : ℕ) (s : Progress) (f : Found) → Going (suc n) s f →
      Next n (step restart b tolerance s f).answer (step restart b tolerance s f).found

  pub by_run : Steps →
      ((s : Progress) (f : Found) → Going zero s f → Done used_up s f) → (n : ℕ) (s : Progress) (f : Found) → Going n s f →
      Ends (run n restart b tolerance s f)
  unfolding run
  by_run more none zero s f g = none s f g
  by_run more none (suc n) s f g =
      let o = step restart b tolerance s f in
      by_followed n o.answer o.found (λ s' f'. by_run more none n s' f') (more n s f g)

-- a whole run: the block can give no term, and nothing is done; or there are as many steps to take as rows can be listed
pub by_start : (restart : Bool) (m n : ℕ) (a : List Float) (epsilon : Float) (t : Memory) (P : Finish → Type 0) →
    (min m n ≡ 0 → P (finish used_up begin (start t))) →
    (0 < min m n → P (run (listed restart m n) restart (block_of m n a) (times epsilon epsilon) begin (start t))) →
    P (approximation m n a epsilon restart t)
unfolding approximation run
by_start restart m n a epsilon t P idle busy =
    by_eq (min m n) 0 (λ z e. rw e (idle z)) (λ z e. rw e (busy (omega arith)))

-- HOW MUCH A RUN FINDS, in either mode

-- before each step, with so many left
record Going (restart : Bool) (b : Block) (n : ℕ) (s : Progress) (f : Found) : Type 0 where
  read : ℕ
  counts : Counts b read s.rank f
  steps : n + read ≤ listed restart b.rows b.columns
  below : 0 < n → s.rank < most b
  terms_most : s.rank ≤ most b

module _ (restart : Bool) (b : Block) (t : Memory) where
  abbrev Done : (w : ℕ) → Progress → Found → Type 0
  Done w s f = Facts restart b.rows b.columns s.rank f t

  ended : (r k : ℕ) (s : Progress) (f : Found) → s.rank ≡ k → Counts b r k f → r ≤ listed restart b.rows b.columns → k ≤ most b →
      Facts restart b.rows b.columns s.rank f t
  unfolding laid
  ended r k s f e c few terms =
      rw e
      record {
        columns_read = c.columns_long;
        rank_most = terms;
        us_filled = c.us_long;
        vs_filled = c.vs_long;
        us_kept = rw (← c.us_long);
        vs_kept = rw (← c.vs_long);
        rows_most = rw c.rows_long few;
      }

  module _ (tolerance : Float) (n : ℕ) (s : Progress) (f : Found) (g : Going restart b (suc n) s f) where
    room : g.read + 1 ≤ listed restart b.rows b.columns
    room = omega (arith, g.steps)

    fewer : s.rank < most b
    fewer = g.below (omega arith)

    term_ended : Facts restart b.rows b.columns (term b s f).rank (stored (down b s f)) t
    unfolding weighed grown
    term_ended = ended (g.read + 1) (s.rank + 1) (term b s f) _ refl (counts_term b s f g.read g.counts) room (omega (arith, fewer))

    row_ended : Facts restart b.rows b.columns s.rank (across b s f) t
    row_ended = ended (g.read + 1) s.rank s _ refl (counts_across b s f g.read g.counts) room (omega (arith, fewer))

    ways : Ways restart b s f (Next restart b tolerance (Going restart b) Done n)
    unfolding weighed grown
    ways =
        record {
          met = λ h. term_ended;
          full = λ h e. term_ended;
          further = λ h e i l u. record {
            read = g.read + 1;
            counts = counts_term b s f g.read g.counts;
            steps = omega (arith, g.steps);
            below = λ z. omega (arith, fewer, e);
            terms_most = omega (arith, fewer);
          };
          over = λ h e a. term_ended;
          bare = λ h e. row_ended;
          skip = λ h e i l u. record {
            read = g.read + 1;
            counts = counts_across b s f g.read g.counts;
            steps = omega (arith, g.steps);
            below = λ z. fewer;
            terms_most = g.terms_most;
          };
          out = λ h e a. row_ended;
        }

  run_facts : (tolerance : Float) (n : ℕ) (s : Progress) (f : Found) → Going restart b n s f →
      Ends restart b tolerance (Going restart b) Done (run n restart b tolerance s f)
  run_facts tolerance =
      by_run restart b tolerance (Going restart b) Done
      (λ n s f g. by_way restart b tolerance s f _ (omega (arith, fewer tolerance n s f g)) (ways tolerance n s f g))
      (λ s f g. ended g.read s.rank s f refl g.counts (omega (arith, g.steps)) g.terms_most)

none_found : (m n : ℕ) (a : List Float) (t : Memory) → Counts (block_of m n a) 0 0 (start t)
none_found m n a t = record { rows_long = refl; columns_long = refl; us_long = sym (zero-mul m); vs_long = sym (zero-mul n) }

-- IN THE OLD MODE every row read has given a term, until one does not

record OldGoing (b : Block) (n : ℕ) (s : Progress) (f : Found) : Type 0 where
  counts : Counts b s.rank s.rank f
  steps : n + s.rank ≡ most b

module _ (b : Block) where
  abbrev OldDone : (w : ℕ) → Progress → Found → Type 0
  OldDone w s f = OldFacts b.rows b.columns w s.rank f

  module _ (tolerance : Float) (n : ℕ) (s : Progress) (f : Found) (g : OldGoing b (suc n) s f) where
    after_term : Counts b (s.rank + 1) (s.rank + 1) (stored (down b s f))
    after_term = counts_term b s f s.rank g.counts

    old_ways : Ways false b s f (Next false b tolerance (OldGoing b) OldDone n)
    unfolding weighed grown
    old_ways =
        record {
          met = λ h. record {
            stops = inl refl;
            full = λ z. absurd (omega (arith, z));
            rows_read = λ z. after_term.rows_long;
            rows_read_spent = λ z. absurd (omega (arith, z));
          };
          full = λ h e. record {
            stops = inr (inr refl);
            full = λ z. e;
            rows_read = λ z. after_term.rows_long;
            rows_read_spent = λ z. absurd (omega (arith, z));
          };
          further = λ h e i l u. record { counts = after_term; steps = omega (arith, g.steps) };
          over = λ h e a. not_both e refl;
          bare = λ h e. record {
            stops = inr (inl refl);
            full = λ z. absurd (omega (arith, z));
            rows_read = λ z. absurd (z refl);
            rows_read_spent = λ z. (counts_across b s f s.rank g.counts).rows_long;
          };
          skip = λ h e i l u. not_both e refl;
          out = λ h e a. not_both e refl;
        }

  run_old : (tolerance : Float) (n : ℕ) (s : Progress) (f : Found) → OldGoing b n s f →
      Ends false b tolerance (OldGoing b) OldDone (run n false b tolerance s f)
  run_old tolerance =
      by_run false b tolerance (OldGoing b) OldDone
      (λ n s f g. by_way false b tolerance s f _ (omega (arith, g.steps)) (old_ways tolerance n s f g))
      (λ s f g. record {
        stops = inr (inr refl);
        full = λ z. omega (arith, g.steps);
        rows_read = λ z. g.counts.rows_long;
        rows_read_spent = λ z. absurd (omega (arith, z));
      })

-- THE FACTS

module _ (m n : ℕ) (a : List Float) (epsilon : Float) (t : Memory) where
  pub facts : (restart : Bool) → RunFacts m n a epsilon t restart
  facts restart =
      by_start restart m n a epsilon t (λ (e : Finish). Facts restart m n e.state.rank e.found t)
      (λ z. ended restart (block_of m n a) t 0 0 begin (start t) refl (none_found m n a t) (omega arith) (omega arith))
      (λ l. run_facts restart (block_of m n a) t (times epsilon epsilon) (listed restart m n) begin (start t)
      (record { read = 0; counts = none_found m n a t; steps = omega arith; below = λ z. l; terms_most = omega arith }))

  pub old_facts : OldRunFacts m n a epsilon t
  old_facts =
      by_start false m n a epsilon t (λ (e : Finish). OldFacts m n e.stop e.state.rank e.found)
      (λ z. record {
        stops = inr (inr refl);
        full = λ _. sym z;
        rows_read = λ _. refl;
        rows_read_spent = λ e. absurd (omega (arith, e));
      })
      (λ l. run_old (block_of m n a) (times epsilon epsilon) (min m n) begin (start t)
      (record { counts = none_found m n a t; steps = omega arith }))

  pub nothing_read : (restart : Bool) → NothingRead m n a epsilon t restart
  unfolding approximation run
  nothing_read restart z = rw z
