-- The masked argmax is the first of the largest counted sizes: by what holds of the best of the first n entries. Assumes nothing.
use mathlib.Core.Path.{◌≡◌, refl, sym, ap, ◌∙◌}
use mathlib.Core.Bool.{Bool, true, false, ◌&&◌, and-eq-true_iff, true≢false}
use mathlib.Core.List.{List}
use Prim.Native.Nat.{ℕ, zero, suc, ◌<◌}
use native.Mathlib.Nat.{not-suc-le-zero}
use native.Mathlib.Omega.{arith}
use lib.Ieee.{Float, nan, lt, is_nan}
use lib.ListN.{length}
use Rattle.common.specs.Floats.{zero₆₄, size}
use Rattle.common.proofs.Cases.{by_bool, by_last}
use Rattle.common.proofs.Orders.{lt_trans, lt_split, lt_self}
use Rattle.aca_pivots.specs.Largest.{best, argmax, pivot}
use Rattle.aca_pivots.specs.Facts.{size_at, Counted, FirstLargest, ArgmaxFacts}
use Rattle.aca_pivots.proofs.Largest.{argmax_in, any_default}

-- Of the first n entries: none counts with a size above 0, and the answer is place 0 with size 0; or entry j is the first of the
-- largest among them. Here w is the best size.
record None (l : List Float) (on : ℕ → Bool) (n j : ℕ) (w : Float) : Type 0 where
  place : j ≡ 0
  worth : w ≡ zero₆₄
  none : (k : ℕ) → k < n → on k ≡ true → lt zero₆₄ (size_at l k) ≡ false

record First (l : List Float) (on : ℕ → Bool) (n j : ℕ) (w : Float) : Type 0 where
  inside : j < n
  counted : on j ≡ true
  worth : w ≡ size_at l j
  above_zero : lt zero₆₄ w ≡ true
  largest : (k : ℕ) → k < n → on k ≡ true → lt w (size_at l k) ≡ false
  first : (k : ℕ) → k < j → on k ≡ true → is_nan (size_at l k) ≡ false → lt (size_at l k) w ≡ true

data Either (l : List Float) (on : ℕ → Bool) (n j : ℕ) (w : Float) : Type 0 where
  nothing : None l on n j w → Either l on n j w
  something : First l on n j w → Either l on n j w

module _ (l : List Float) (on : ℕ → Bool) (n : ℕ) where
  -- what an entry that is not taken leaves: it does not count, or is not above
  passed : (w : Float) → (on n && lt w (size_at l n)) ≡ false → on n ≡ true → lt w (size_at l n) ≡ false
  passed w e o = rw o at e

  none_more : {j : ℕ} {w : Float} → None l on n j w → (on n && lt w (size_at l n)) ≡ false → None l on (suc n) j w
  none_more {j} {w} h e =
      record {
        place = h.place;
        worth = h.worth;
        none = λ k b o. by_last k n b
            (λ z. rw z (rw h.worth at (passed w e (rw z at o))))
            (λ z. h.none k z o);
      }

  first_more : {j : ℕ} {w : Float} → First l on n j w → (on n && lt w (size_at l n)) ≡ false → First l on (suc n) j w
  first_more {j} {w} h e =
      record {
        inside = omega (arith, h.inside);
        counted = h.counted;
        worth = h.worth;
        above_zero = h.above_zero;
        largest = λ k b o. by_last k n b (λ z. rw z (passed w e (rw z at o))) (λ z. h.largest k z o);
        first = h.first;
      }

  module _ (o : on n ≡ true) where
    none_taken : {j : ℕ} {w : Float} → None l on n j w → lt w (size_at l n) ≡ true → First l on (suc n) n (size_at l n)
    none_taken {j} {w} h t =
        let above : lt zero₆₄ (size_at l n) ≡ true = rw h.worth at t in
        record {
          inside = omega arith;
          counted = o;
          worth = refl;
          above_zero = above;
          largest = λ k b c. by_last k n b
              (λ z. rw z (lt_self (size_at l n)))
              (λ z. by_bool (lt (size_at l n) (size_at l k))
              (λ q. absurd (true≢false (sym (lt_trans zero₆₄ (size_at l n) (size_at l k) above q) ∙ h.none k z c)))
              (λ q. q));
          first = λ k b c q. lt_split zero₆₄ (size_at l k) (size_at l n) q above (h.none k b c);
        }

    first_taken : {j : ℕ} {w : Float} → First l on n j w → lt w (size_at l n) ≡ true → First l on (suc n) n (size_at l n)
    first_taken {j} {w} h t =
        record {
          inside = omega arith;
          counted = o;
          worth = refl;
          above_zero = lt_trans zero₆₄ w (size_at l n) h.above_zero t;
          largest = λ k b c. by_last k n b
              (λ z. rw z (lt_self (size_at l n)))
              (λ z. by_bool (lt (size_at l n) (size_at l k))
              (λ q. absurd (true≢false (sym (lt_trans w (size_at l n) (size_at l k) t q) ∙ h.largest k z c)))
              (λ q. q));
          first = λ k b c q. lt_split w (size_at l k) (size_at l n) q t (h.largest k b c);
        }

best_is : (l : List Float) (on : ℕ → Bool) (n : ℕ) → Either l on n (best n l on).place (best n l on).worth
unfolding best
best_is l on zero = nothing (record { place = refl; worth = refl; none = λ k b. absurd (not-suc-le-zero b) })
best_is l on (suc n) =
    by_bool (on n && lt (best n l on).worth (size_at l n))
    (λ e. let c = (and-eq-true_iff (on n) (lt (best n l on).worth (size_at l n))).0 e in
    rw e (taken (best_is l on n) c.0 c.1))
    (λ e. rw e (kept (best_is l on n) e))
  where
    taken : {j : ℕ} {w : Float} → Either l on n j w → on n ≡ true → lt w (size_at l n) ≡ true → Either l on (suc n) n (size_at l n)
    taken (nothing h) o t = something (none_taken l on n o h t)
    taken (something h) o t = something (first_taken l on n o h t)

    kept : {j : ℕ} {w : Float} → Either l on n j w → (on n && lt w (size_at l n)) ≡ false → Either l on (suc n) j w
    kept (nothing h) e = nothing (none_more l on n h e)
    kept (something h) e = something (first_more l on n h e)

module _ (l : List Float) (on : ℕ → Bool) where
  argmax_is : Either l on (length l) (argmax l on) (best (length l) l on).worth
  unfolding argmax
  argmax_is = best_is l on (length l)

  first_of : {j : ℕ} {w : Float} → Either l on (length l) j w → (k : ℕ) → Counted l on k → lt zero₆₄ (size_at l k) ≡ true →
      FirstLargest l on j
  first_of (nothing h) k c a = absurd (true≢false (sym a ∙ h.none k c.inside c.is_on))
  first_of (something h) k c a =
      record {
        counted = record { inside = h.inside; is_on = h.counted };
        above_zero = rw h.worth at h.above_zero;
        largest = λ i d. rw h.worth at (h.largest i d.inside d.is_on);
        first = λ i d b q. rw h.worth at (h.first i b d.is_on q);
      }

  none_of : {j : ℕ} {w : Float} → Either l on (length l) j w → ((k : ℕ) → Counted l on k → lt zero₆₄ (size_at l k) ≡ false) → j ≡ 0
  none_of (nothing h) z = h.place
  none_of {j} (something h) z =
      let above : lt zero₆₄ (size_at l j) ≡ true = rw h.worth at h.above_zero in
      absurd (true≢false (sym above ∙ z j (record { inside = h.inside; is_on = h.counted })))

  pub argmax_facts : ArgmaxFacts l on
  unfolding pivot
  argmax_facts =
      record {
        first_largest = first_of argmax_is;
        none_above = none_of argmax_is;
        pivot_size = λ some. ap size (any_default l (argmax l on) zero₆₄ nan (argmax_in l on some));
      }
