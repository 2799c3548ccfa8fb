-- What the flags mean: all are on, one is cleared, and where to look next. Assumes nothing.
use mathlib.Core.Path.{◌≡◌, refl, sym, ap}
use mathlib.Core.Bool.{true, false, cond}
use mathlib.Core.List.{List, [], ◌∷◌}
use Prim.Native.Nat.{ℕ, zero, suc, ◌+◌, ◌-◌, ◌*◌, ◌/◌, ◌%◌, ◌^◌, ◌<◌, ◌≤◌}
use native.Mathlib.Omega.{arith}
use lib.Bits.{and_zero_l}
use lib.Dec.{eqb}
use lib.ListN.{get_or, set, get_or-replicate}
use lib.Seq.{get_or-set_other}
use borrow.Author.Tests.{eq-eqb, ne_eqb}
use Rattle.common.specs.Refusals.{most_entries}
use Rattle.common.proofs.Cases.{by_eq}
use Rattle.aca_pivots.specs.Flags.{without_bit, is_on, all_on, cleared}
use Rattle.aca_pivots.specs.Working.{next_place}
use Rattle.aca_pivots.proofs.Bits.{all_bits, bit_without, none_above}

pub all_on_lem : (k : ℕ) → k < most_entries → is_on all_on k ≡ true
unfolding is_on all_on
all_on_lem k h = rw (get_or-replicate {A = ℕ} 16 (k / 64) (2 ^ 64 - 1) 0 (omega (arith, h))) (all_bits (k % 64) (omega arith))

-- a word that is not there has no bit to take out
word_at : (l : List ℕ) (q r : ℕ) → get_or (set l q (without_bit (get_or l q 0) r)) q 0 ≡ without_bit (get_or l q 0) r
word_at [] q r = sym (and_zero_l (2 ^ 64 - 1 - 2 ^ r))
word_at (x ∷ l) zero r = refl
word_at (x ∷ l) (suc q) r = word_at l q r

-- two places are one where their words and their bits are
pub on_cleared : (flags : List ℕ) (i k : ℕ) → k < most_entries → is_on (cleared flags i) k ≡ cond (eqb k i) false (is_on flags k)
unfolding is_on cleared
on_cleared flags i k h =
    by_eq (k / 64) (i / 64)
    (λ e _. rw (e, word_at flags (i / 64) (i % 64), bit_without (get_or flags (i / 64) 0) (i % 64) (k % 64) (omega arith) (omega arith))
    (by_eq (k % 64) (i % 64)
    (λ f t. let same : k ≡ i = omega (arith, e, f) in rw (t, eq-eqb k i same))
    (λ f t. rw (t, ne_eqb k i (λ z. f (ap (λ (n : ℕ). n % 64) z))))))
    (λ e _. rw (
      get_or-set_other flags (i / 64) (k / 64) (without_bit (get_or flags (i / 64) 0) (i % 64)) 0 e,
      ne_eqb k i (λ z. e (ap (λ (n : ℕ). n / 64) z)),
    ))

-- from a place whose flag is off to the next that is looked at, every flag is off
pub off_between : (flags : List ℕ) (k i : ℕ) → is_on flags k ≡ false → k ≤ i → i < next_place flags k → is_on flags i ≡ false
unfolding is_on
off_between flags k i off from below =
    by_eq (get_or flags (k / 64) 0 / 2 ^ (k % 64)) 0
    (λ e t. let below' : i < k / 64 * 64 + 64 = rw t at below in
    let word : i / 64 ≡ k / 64 = omega (arith, from, below') in
    rw word (none_above (get_or flags (k / 64) 0) (k % 64) (i % 64) e (omega (arith, from, below'))))
    (λ e t. let below' : i < k + 1 = rw t at below in
    let same : i ≡ k = omega (arith, from, below') in
    rw same off)

pub next_further : (flags : List ℕ) (k : ℕ) → k < next_place flags k
next_further flags k =
    by_eq (get_or flags (k / 64) 0 / 2 ^ (k % 64)) 0 (λ _ t. rw t (omega arith)) (λ _ t. rw t (omega arith))
