-- What a run reports as its smallest pivot is the smallest: by what holds of the pivots accepted so far, in either mode. Assumes nothing.
use mathlib.Core.Path.{◌≡◌, refl, sym, ap, ◌∙◌}
use mathlib.Core.Bool.{Bool, true, false}
use mathlib.Core.List.{List, [], ◌∷◌, ◌++◌, append_assoc, append-nil}
use Prim.Native.Nat.{ℕ, zero, suc, ◌+◌, ◌<◌, min}
use native.Mathlib.Nat.{not-suc-le-zero}
use native.Mathlib.Omega.{arith}
use lib.Ieee.{Float, nan, lt, le, is_nan}
use lib.ListN.{length, get_or, length-append, get_or-append}
use lib.Seq.{get_or_at}
use Rattle.common.specs.Floats.{times, zero₆₄, size}
use Rattle.common.proofs.Cases.{by_bool, by_eq, by_lt, not_both}
use Rattle.common.proofs.Orders.{lt_trans, lt_self}
use Rattle.aca_pivots.specs.Facts.{size_at}
use Rattle.aca_pivots.specs.Largest.{pivot}
use Rattle.aca_pivots.proofs.Facts.{argmax_facts}
use Rattle.aca_progress.specs.Crosses.{Block, Found, unread, tiny₆₄, lesser, grown, weighed, step}
use Rattle.aca_steps.specs.Memories.{Memory, block_of}
use Rattle.aca_progress.specs.declared.Progress.{Progress}
use Rattle.aca_progress.specs.Steps.{Step, More, Stop}
use Rattle.aca_progress.proofs.Chosen.{tiny_above}
use Rattle.aca_progress.proofs.Sizes.{below_number, size_number, usable_large}
use Rattle.aca_progress.proofs.Ways.{across, across_long, chosen, has, term, by_way, state_of}
use Rattle.aca.specs.Runs.{followed, run, listed, begin, report, start, approximation}
use Rattle.aca.specs.Pivots.{of_row, of_rest, of_run, accepted_pivots}
use Rattle.aca.specs.Facts.{Number, Smallest, PivotFacts, RunPivotFacts}

-- Of the pivots so far: none is a number, and +0.0 says so; or x is the smallest
data Either (l : List Float) (x : Float) : Type 0 where
  nothing : ((k : ℕ) → Number l k → ⊥) → x ≡ zero₆₄ → Either l x
  something : Smallest l x → Either l x

-- ONE PIVOT MORE

module _ (l : List Float) (w : Float) where
  abbrev more : List Float
  more = l ++ w ∷ []

  more_long : length more ≡ length l + 1
  more_long = length-append l (w ∷ [])

  earlier : (k : ℕ) → k < length l → get_or more k nan ≡ get_or l k nan
  earlier k h = get_or-append l (w ∷ []) nan k h

  newest : (k : ℕ) → length l ≡ k → get_or more k nan ≡ w
  newest k e = get_or_at l w [] nan k e

  -- a number among them is this one, or one of the earlier
  by_number : {A : Type 0} (k : ℕ) → Number more k → (length l ≡ k → is_nan w ≡ false → A) → (Number l k → A) → A
  by_number k h new old =
      let few : k < length l + 1 = rw more_long at h.inside in
      by_lt k (length l)
      (λ b _. old (record { inside = b; is_number = sym (ap is_nan (earlier k b)) ∙ h.is_number }))
      (λ b _. let e : length l ≡ k = omega arith in new e (sym (ap is_nan (newest k e)) ∙ h.is_number))

  still : (k : ℕ) → Number l k → Number more k
  still k h =
      record {
        inside = rw more_long (omega (arith, h.inside));
        is_number = ap is_nan (earlier k h.inside) ∙ h.is_number;
      }

  -- it is passed over, or it is the smallest now
  stays : (x : Float) → Smallest l x → lt (size w) x ≡ false → Smallest more x
  stays x h b =
      record {
        at = h.at;
        one_of_them = still h.at h.one_of_them;
        its_size = h.its_size ∙ sym (ap size (earlier h.at h.one_of_them.inside));
        none_smaller = λ k n. by_number k n
            (λ e _. ap (λ (y : Float). lt (size y) x) (newest k e) ∙ b)
            (λ o. ap (λ (y : Float). lt (size y) x) (earlier k o.inside) ∙ h.none_smaller k o);
        large = h.large;
      }

  taken : is_nan w ≡ false → le tiny₆₄ (size w) ≡ true → ((k : ℕ) → Number l k → lt (size_at l k) (size w) ≡ false) →
      Smallest more (size w)
  taken n b least =
      record {
        at = length l;
        one_of_them = record { inside = rw more_long (omega arith); is_number = ap is_nan (newest (length l) refl) ∙ n };
        its_size = sym (ap size (newest (length l) refl));
        none_smaller = λ k h. by_number k h
            (λ e _. ap (λ (y : Float). lt (size y) (size w)) (newest k e) ∙ lt_self (size w))
            (λ o. ap (λ (y : Float). lt (size y) (size w)) (earlier k o.inside) ∙ least k o);
        large = b;
      }

  module _ (large : is_nan (size w) ≡ false → le tiny₆₄ (size w) ≡ true) where
    not_negative : lt (size w) zero₆₄ ≡ false
    not_negative =
        by_bool (lt (size w) zero₆₄)
        (λ b. let above = tiny_above (size w) (large (below_number (size w) zero₆₄ b)) in
        not_both (lt_trans (size w) zero₆₄ (size w) b above) (lt_self (size w)))
        (λ b. b)

    first_one : (x : Float) → ((k : ℕ) → Number l k → ⊥) → x ≡ zero₆₄ → Either more (lesser x (size w))
    unfolding lesser
    first_one x none z =
        rw (z, not_negative, lt_self zero₆₄)
        (by_bool (is_nan (size w))
        (λ e. rw e
        (nothing (λ k h. by_number k h (λ _ n. not_both (sym (size_number w) ∙ e) n) (none k)) refl))
        (λ e. rw e
        (something (taken (sym (size_number w) ∙ e) (large e) (λ k h. absurd (none k h))))))

    another : (x : Float) → Smallest l x → Either more (lesser x (size w))
    unfolding lesser
    another x h =
        by_bool (lt (size w) x)
        (λ b. let n = below_number (size w) x b in
        rw b
        (something (taken (sym (size_number w) ∙ n) (large n)
        (λ k o. by_bool (lt (size_at l k) (size w))
        (λ c. not_both (lt_trans (size_at l k) (size w) x c b) (h.none_smaller k o))
        (λ c. c)))))
        (λ b. rw (b, tiny_above x h.large) (something (stays x h b)))

    one_more_lem : (x : Float) → Either l x → Either more (lesser x (size w))
    one_more_lem x (nothing none z) = first_one x none z
    one_more_lem x (something h) = another x h

-- A STEP accepts the pivot of its row, or none

record Known (l : List Float) (rank : ℕ) (x : Float) : Type 0 where
  as_many : length l ≡ rank
  either : Either l x

module _ (restart : Bool) (b : Block) (some_rows : 0 < b.rows) (some-columns : 0 < b.columns) (tolerance : Float) where
  module _ (s : Progress) (f : Found) (l : List Float) (h : Known l s.rank s.smallest) where
    abbrev row : List Float
    row = (across b s f).row

    abbrev on : ℕ → Bool
    on = unread (across b s f).columns

    -- what stands in the row at the pivot
    abbrev w : Float
    w = get_or row (chosen b s f).place nan

    some : 0 < length row
    some = rw (across_long b s f) some-columns

    its_size : (chosen b s f).size ≡ size w
    unfolding pivot
    its_size = (argmax_facts row on).pivot_size some

    abbrev after : List Float
    after = l ++ of_row restart (across b s f)

    with_term : has b s f restart ≡ true → Known after (term b s f).rank (term b s f).smallest
    unfolding of_row weighed grown
    with_term u =
        let large : is_nan (size w) ≡ false → le tiny₆₄ (size w) ≡ true = rw its_size at (usable_large restart row on some u) in
        rw (u, its_size)
        record { as_many = more_long l w ∙ ap (λ (k : ℕ). k + 1) h.as_many; either = one_more_lem l w large s.smallest h.either }

    without_term : has b s f restart ≡ false → Known after s.rank s.smallest
    unfolding of_row
    without_term u = rw (u, append-nil l) h

    step_known : let a = (step restart b tolerance s f).answer in Known after (state_of a).rank (state_of a).smallest
    step_known =
        by_way restart b tolerance s f (λ (a : Step) (_ : Found). Known after (state_of a).rank (state_of a).smallest) some_rows
        (record {
          met = λ u. with_term u;
          full = λ u _. with_term u;
          further = λ u _ _ _ _. with_term u;
          over = λ u _ _. with_term u;
          bare = λ u _. without_term u;
          skip = λ u _ _ _ _. without_term u;
          out = λ u _ _. without_term u;
        })

  -- THE RUN

  after_step : (n : ℕ) → ((s : Progress) (f : Found) (l : List Float) → Known l s.rank s.smallest →
      let e = run n restart b tolerance s f in
      Known (l ++ of_run n restart b tolerance s f) e.state.rank e.state.smallest) →
      (a : Step) (f : Found) (l : List Float) → Known l (state_of a).rank (state_of a).smallest →
      let e = followed a f (run n restart b tolerance) in
      Known (l ++ of_rest a f (of_run n restart b tolerance)) e.state.rank e.state.smallest
  unfolding followed of_rest
  after_step n rest (More s) f l h = rest s f l h
  after_step n rest (Stop v s) f l h = rw (append-nil l) h

  run_known : (n : ℕ) (s : Progress) (f : Found) (l : List Float) → Known l s.rank s.smallest →
      let e = run n restart b tolerance s f in
      Known (l ++ of_run n restart b tolerance s f) e.state.rank e.state.smallest
  unfolding run of_run
  run_known zero s f l h = rw (append-nil l) h
  run_known (suc n) s f l h =
      let o = step restart b tolerance s f in
      let now : List Float = of_row restart (across b s f) in
      rw (← append_assoc l now (of_rest o.answer o.found (of_run n restart b tolerance)))
      (after_step n (λ s' f' l' h'. run_known n s' f' l' h') o.answer o.found (l ++ now) (step_known s f l h))

none_known : Known [] 0 zero₆₄
none_known = record { as_many = refl; either = nothing (λ k h. not-suc-le-zero h.inside) refl }

told : (l : List Float) (rank : ℕ) (x : Float) → Known l rank x → PivotFacts l rank x
told l rank x h =
    record {
      as_many = h.as_many;
      some_number = some h.either;
      no_number = none h.either;
    }
  where
    some : Either l x → (k : ℕ) → Number l k → Smallest l x
    some (nothing none z) k n = absurd (none k n)
    some (something s) k n = s

    none : Either l x → ((k : ℕ) → Number l k → ⊥) → x ≡ zero₆₄
    none (nothing _ z) g = z
    none (something s) g = absurd (g s.at s.one_of_them)

pub pivot_facts : (m n : ℕ) (a : List Float) (epsilon : Float) (t : Memory) (restart : Bool) → RunPivotFacts m n a epsilon t restart
unfolding approximation accepted_pivots report run of_run
pivot_facts m n a epsilon t restart =
    by_eq (min m n) 0
    (λ z e. rw e (told [] 0 zero₆₄ none_known))
    (λ z e. rw e
    (told _ _ _
    (run_known restart (block_of m n a) (omega arith) (omega arith) (times epsilon epsilon) (listed restart m n) begin
    (start t) [] none_known)))
