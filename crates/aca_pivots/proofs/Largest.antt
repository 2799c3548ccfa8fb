-- The masked argmax: one entry more is larger and counts, does not count, or is not larger; where it is; and what it
-- depends on. Assumes nothing.
use mathlib.Core.Path.{◌≡◌, refl, ap}
use mathlib.Core.Bool.{Bool, true, false, ◌&&◌}
use mathlib.Core.List.{List, [], ◌∷◌}
use Prim.Native.Nat.{ℕ, zero, suc, ◌+◌, ◌<◌, ◌≤◌}
use native.Mathlib.Numerals.{add-one}
use native.Mathlib.Omega.{arith}
use lib.Ieee.{Float, nan, lt, of_bits, of_fields, odd}
use lib.ListN.{length, get_or, get_or-eq_default}
use Rattle.common.specs.Floats.{zero₆₄, size}
use Rattle.common.proofs.Cases.{by_bool}
use Rattle.aca_pivots.specs.Largest.{best, argmax, pivot_at, pivot}
use Rattle.aca_pivots.specs.declared.Pivot.{Pivot}
use Rattle.aca_pivots.specs.declared.search.Best.{Best}

module _ (l : List Float) (on : ℕ → Bool) (k : ℕ) {h : Best} {s : Float} (b : h ≡ best k l on) (f : s ≡ size (get_or l k nan)) where
  pub taken : on k ≡ true → lt h.worth s ≡ true → ◌≡◌ {A = Best} (record { place = k; worth = s }) (best (k + 1) l on)
  unfolding best
  taken o t =
      let larger : lt (best k l on).worth (size (get_or l k nan)) ≡ true = rw (b, f) at t in
      rw (add-one, o, larger, f)

  pub masked : on k ≡ false → h ≡ best (k + 1) l on
  unfolding best
  masked o = rw (add-one, o) b

  pub passed : lt h.worth s ≡ false → h ≡ best (k + 1) l on
  unfolding best
  passed t =
      let larger : lt (best k l on).worth (size (get_or l k nan)) ≡ false = rw (b, f) at t in
      by_bool (on k) (λ o. rw (add-one, o, larger) b) masked

-- THE ANSWER, once all entries are passed

-- an entry is the same whatever is read past the end
pub any_default : (l : List Float) (k : ℕ) (d d' : Float) → k < length l → get_or l k d ≡ get_or l k d'
any_default [] k d d' h = absurd (omega arith)
any_default (x ∷ l) zero d d' h = refl
any_default (x ∷ l) (suc k) d d' h = any_default l k d d' (omega arith)

nothing_there : size zero₆₄ ≡ zero₆₄
unfolding size lt of_bits of_fields odd
nothing_there = refl

pub at_entry : (l : List Float) (k : ℕ) {s : Float} → k < length l → s ≡ size (get_or l k nan) →
    ◌≡◌ {A = Pivot} (record { place = k; size = s }) (pivot_at l k)
at_entry l k i e = rw (e, any_default l k nan zero₆₄ i)

pub past_entries : (l : List Float) (k : ℕ) → length l ≤ k → ◌≡◌ {A = Pivot} (record { place = k; size = zero₆₄ }) (pivot_at l k)
past_entries l k i = rw (get_or-eq_default l zero₆₄ i, nothing_there)

module _ (l : List Float) (on : ℕ → Bool) (h : Best) (b : h ≡ best (length l) l on) where
  pub place_found : h.place ≡ argmax l on
  unfolding argmax
  place_found = ap (λ (x : Best). x.place) b

  pub pivot_found : pivot_at l h.place ≡ pivot l on
  unfolding pivot
  pivot_found = rw (← place_found)

-- WHERE IT IS: a place in the list, where that has any

best_in : (n : ℕ) (l : List Float) (on : ℕ → Bool) → 0 < n → (best n l on).place < n
unfolding best
best_in zero l on h = absurd (omega arith)
best_in (suc zero) l on h =
    by_bool (on 0 && lt (best 0 l on).worth (size (get_or l 0 nan))) (λ e. rw e (omega arith)) (λ e. rw e (omega arith))
best_in (suc (suc n)) l on h =
    by_bool (on (suc n) && lt (best (suc n) l on).worth (size (get_or l (suc n) nan)))
    (λ e. rw e (omega arith))
    (λ e. rw e (let less = best_in (suc n) l on (omega arith) in omega arith))

pub argmax_in : (l : List Float) (on : ℕ → Bool) → 0 < length l → argmax l on < length l
unfolding argmax
argmax_in l on h = best_in (length l) l on h

-- WHAT IT DEPENDS ON: which of the entries count

best_cong : (n : ℕ) (l : List Float) (on on' : ℕ → Bool) → ((k : ℕ) → k < n → on k ≡ on' k) → best n l on ≡ best n l on'
unfolding best
best_cong zero l on on' h = refl
best_cong (suc n) l on on' h = rw (best_cong n l on on' (λ k b. h k (omega arith)), h n (omega arith))

argmax_cong : (l : List Float) (on on' : ℕ → Bool) → ((k : ℕ) → k < length l → on k ≡ on' k) → argmax l on ≡ argmax l on'
unfolding argmax
argmax_cong l on on' h = ap (λ (b : Best). b.place) (best_cong (length l) l on on' h)

pub pivot_cong : (l : List Float) (on on' : ℕ → Bool) → ((k : ℕ) → k < length l → on k ≡ on' k) → pivot l on ≡ pivot l on'
unfolding pivot
pivot_cong l on on' h = rw (argmax_cong l on on' h)
