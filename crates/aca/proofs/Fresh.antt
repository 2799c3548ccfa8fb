-- In restart mode no row and no column is read twice, and a run ends for one of three reasons. Assumes nothing.
use mathlib.Core.Path.{◌≡◌, refl, sym, subst, ◌∙◌}
use mathlib.Core.Logic.{inl, inr}
use mathlib.Core.Bool.{Bool, true, false}
use mathlib.Core.List.{List, [], ◌∷◌, ◌++◌}
use Prim.Native.Nat.{ℕ, zero, suc, ◌+◌, ◌<◌}
use native.Mathlib.Nat.{not-suc-le-zero}
use native.Mathlib.Omega.{arith}
use lib.Dec.{eqb}
use lib.Ieee.{Float}
use lib.ListN.{length, get_or, length-append, get_or-append}
use lib.Seq.{get_or_at}
use Rattle.common.specs.Floats.{times}
use Rattle.common.specs.Tests.{count}
use Rattle.common.proofs.Cases.{by_bool, by_eq, by_lt, by_last, not_both}
use Rattle.common.proofs.Tests.{count_less}
use Rattle.aca_progress.specs.Crosses.{Block, Found, unread, row_read, column_read, stored}
use Rattle.aca_steps.specs.Memories.{Memory, block_of}
use Rattle.aca_progress.specs.declared.Progress.{Progress}
use Rattle.aca_progress.proofs.Chosen.{usable_on}
use Rattle.aca_steps.proofs.Marked.{unread_last}
use Rattle.aca_progress.proofs.Ways.{across, chosen, has, Ways, by_way}
use Rattle.aca.specs.Runs.{Finish, run, begin, start}
use Rattle.aca.specs.Facts.{Distinct, RestartFacts, RestartRunFacts}
use Rattle.aca.proofs.Facts.{Next, Ends, by_run, by_start}

-- NOTHING TWICE

listed_read : (l : List ℕ) (i : ℕ) → i < length l → unread l (get_or l i 0) ≡ false
unfolding unread
listed_read [] i h = absurd (not-suc-le-zero h)
listed_read (x ∷ l) zero h = by_eq x x (λ _ e. rw e) (λ g _. absurd (g refl))
listed_read (x ∷ l) (suc i) h =
    by_bool (eqb (get_or l i 0) x) (λ e. rw e) (λ e. rw e (listed_read l i (omega arith)))

distinct_last : (l : List ℕ) (x : ℕ) → Distinct l → unread l x ≡ true → Distinct (l ++ x ∷ [])
distinct_last l x d u i j b h e =
    let h' : j < length l + 1 = rw length-append at h in
    by_lt j (length l)
    (λ k _. d i j b k (sym (get_or-append l (x ∷ []) 0 i (omega arith)) ∙ e ∙ get_or-append l (x ∷ []) 0 j k))
    (λ k _. let q : length l ≡ j = omega arith in
    let z : get_or l i 0 ≡ x = sym (get_or-append l (x ∷ []) 0 i (omega arith)) ∙ e ∙ get_or_at l x [] 0 j q in
    not_both u (subst (λ (y : ℕ). unread l y ≡ false) z (listed_read l i (omega arith))))

none_distinct : Distinct []
none_distinct i j b h e = not-suc-le-zero h

-- HOW MANY ARE UNREAD

count_same : (n : ℕ) (f g : ℕ → Bool) → ((i : ℕ) → i < n → f i ≡ g i) → count n f ≡ count n g
unfolding count
count_same zero f g h = refl
count_same (suc n) f g h = rw (count_same n f g (λ i l. h i (omega arith)), h n (omega arith))

count_one : (n : ℕ) (f g : ℕ → Bool) (k : ℕ) → k < n → f k ≡ true → g k ≡ false → ((i : ℕ) → (i ≡ k → ⊥) → f i ≡ g i) →
    count n f ≡ count n g + 1
unfolding count
count_one zero f g k l p q h = absurd (not-suc-le-zero l)
count_one (suc n) f g k l p q h =
    by_last k n l
    (λ e. let p' : f n ≡ true = rw e at p in
    let q' : g n ≡ false = rw e at q in
    rw (p', q', count_same n f g (λ i b. h i (λ z. omega arith))) (omega arith))
    (λ b. rw (h n (λ z. omega arith)) (let less = count_one n f g k b p q h in omega arith))

count_unread : (m : ℕ) (l : List ℕ) (x : ℕ) → x < m → unread l x ≡ true → count m (unread l) ≡ count m (unread (l ++ x ∷ [])) + 1
count_unread m l x b u =
    count_one m (unread l) (unread (l ++ x ∷ [])) x b u (by_eq x x (λ _ e. rw (unread_last l x x, e)) (λ g _. absurd (g refl)))
    (λ i g. by_eq i x (λ e _. absurd (g e)) (λ _ e. rw (unread_last l x i, e)))

count_none : (m : ℕ) → count m (unread []) ≡ m
unfolding count unread
count_none zero = refl
count_none (suc m) = rw (count_none m) (omega arith)

-- THE RUN: before each step there are as many left as rows are unread, and the next one is among them

record Going (b : Block) (n : ℕ) (s : Progress) (f : Found) : Type 0 where
  rows_distinct : Distinct f.rows
  columns_distinct : Distinct f.columns
  next_in : s.next < b.rows
  next_unread : unread f.rows s.next ≡ true
  left : n ≡ count b.rows (unread f.rows)

module _ (b : Block) where
  abbrev Done : (w : ℕ) → Progress → Found → Type 0
  Done w s f = RestartFacts b.rows b.columns w s.rank f

  module _ (tolerance : Float) (n : ℕ) (s : Progress) (f : Found) (g : Going b (suc n) s f) where
    rows_fresh : Distinct (f.rows ++ s.next ∷ [])
    rows_fresh = distinct_last f.rows s.next g.rows_distinct g.next_unread

    columns_fresh : has b s f true ≡ true → Distinct (f.columns ++ (chosen b s f).place ∷ [])
    unfolding row_read
    columns_fresh h =
        distinct_last f.columns (chosen b s f).place g.columns_distinct (usable_on (across b s f).row (unread f.columns) h)

    left_fresh : n ≡ count b.rows (unread (f.rows ++ s.next ∷ []))
    left_fresh = omega (arith, g.left, count_unread b.rows f.rows s.next g.next_in g.next_unread)

    ways : Ways true b s f (Next true b tolerance (Going b) Done n)
    unfolding row_read column_read stored
    ways =
        record {
          met = λ h. record {
            rows_distinct = rows_fresh;
            columns_distinct = columns_fresh h;
            stops = inl refl;
            full = λ e. absurd (omega (arith, e));
            all_read = λ e. absurd (omega (arith, e));
          };
          full = λ h q. record {
            rows_distinct = rows_fresh;
            columns_distinct = columns_fresh h;
            stops = inr (inl refl);
            full = λ e. q;
            all_read = λ e. absurd (omega (arith, e));
          };
          further = λ h q i l u. record {
            rows_distinct = rows_fresh;
            columns_distinct = columns_fresh h;
            next_in = l;
            next_unread = u refl;
            left = left_fresh;
          };
          over = λ h r a. record {
            rows_distinct = rows_fresh;
            columns_distinct = columns_fresh h;
            stops = inr (inr refl);
            full = λ e. absurd (omega (arith, e));
            all_read = λ e. a;
          };
          bare = λ h r. not_both refl r;
          skip = λ h r i l u. record {
            rows_distinct = rows_fresh;
            columns_distinct = g.columns_distinct;
            next_in = l;
            next_unread = u;
            left = left_fresh;
          };
          out = λ h r a. record {
            rows_distinct = rows_fresh;
            columns_distinct = g.columns_distinct;
            stops = inr (inr refl);
            full = λ e. absurd (omega (arith, e));
            all_read = λ e. a;
          };
        }

  run_fresh : (tolerance : Float) (n : ℕ) (s : Progress) (f : Found) → Going b n s f →
      Ends true b tolerance (Going b) Done (run n true b tolerance s f)
  run_fresh tolerance =
      by_run true b tolerance (Going b) Done
      (λ n s f g. by_way true b tolerance s f _ (let l = g.next_in in omega arith) (ways tolerance n s f g))
      (λ s f g. absurd
      (let l = count_less (unread f.rows) s.next b.rows g.next_in g.next_unread in omega (arith, g.left)))

pub restart_facts : (m n : ℕ) (a : List Float) (epsilon : Float) (t : Memory) → RestartRunFacts m n a epsilon t
unfolding unread
restart_facts m n a epsilon t =
    by_start true m n a epsilon t (λ (e : Finish). RestartFacts m n e.stop e.state.rank e.found)
    (λ z. record {
      rows_distinct = none_distinct;
      columns_distinct = none_distinct;
      stops = inr (inl refl);
      full = λ _. sym z;
      all_read = λ e. absurd (omega (arith, e));
    })
    (λ l. run_fresh (block_of m n a) (times epsilon epsilon) m begin (start t)
    (record {
      rows_distinct = none_distinct;
      columns_distinct = none_distinct;
      next_in = omega arith;
      next_unread = refl;
      left = sym (count_none m);
    }))
