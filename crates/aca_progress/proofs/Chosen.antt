-- What code may ask in restart mode: there is a usable pivot exactly where the argmax counts and has a size of 2 ^ -52. Assumes nothing.
use mathlib.Core.Path.{◌≡◌, refl, sym, ◌∙◌}
use mathlib.Core.Bool.{Bool, true, false, ◌&&◌, and-eq-true_iff}
use mathlib.Core.List.{List}
use Prim.Native.Nat.{ℕ, ◌*◌, ◌+◌, ◌<◌, ◌≤◌}
use native.Mathlib.Nat.{mul-pos}
use native.Mathlib.Omega.{arith}
use borrow.Author.Tests.{lt-ltb, ltb-false}
use denote.Floats.{passes}
use lib.Count.{count_trailing_zeros}
use lib.Dec.{T, ltb, ltb→lt, lt→ltb}
use lib.IntN.{pos}
use lib.Ieee.{Float, nan, inf, fin, lt, le, eq, of_bits, of_fields, odd, up, down as fall}
use lib.Ieee.Bits.{is_true}
use lib.Ieee.Fits.{up_pos, down_pos}
use lib.Ieee.Positive.{positive, above, above_of_le, first_pos, cross→le, le_trans_positive}
use lib.ListN.{length, get_or}
use Rattle.common.specs.Floats.{zero₆₄, size}
use Rattle.common.specs.Tests.{any}
use Rattle.common.proofs.Cases.{by_bool, not_both}
use Rattle.common.proofs.Tests.{passing, any_at}
use Rattle.aca_pivots.specs.Facts.{size_at, Counted}
use Rattle.aca_pivots.specs.Largest.{argmax, pivot}
use Rattle.aca_pivots.proofs.Facts.{argmax_facts}
use Rattle.aca_pivots.proofs.Largest.{argmax_in}
use Rattle.aca_progress.specs.Crosses.{tiny₆₄, usable}
use Rattle.aca_progress.specs.Working.{usable_here}

-- LAWS OF FLOATS: t is a finite number above 0

above_lt : (x : Float) → T (above x) → lt zero₆₄ x ≡ true
unfolding lt of_bits of_fields odd count_trailing_zeros
above_lt nan h = absurd h
above_lt (inf true) h = absurd h
above_lt (inf false) h = refl
above_lt (fin true m e) h = absurd h
above_lt (fin false m e) h =
    lt-ltb (0 * up (pos 0) * fall e) (m * up e * fall (pos 0)) (let p : 0 < m * up e = mul-pos (ltb→lt 0 m h) (up_pos e) in omega arith)

-- what is not below a number from t up, and is above 0, is from t up
not_below : (t x w : Float) → T (positive t) → T (le t x) → lt w x ≡ false → lt zero₆₄ w ≡ true → T (le t w)
unfolding le lt eq of_bits of_fields odd count_trailing_zeros
not_below nan x w p h l g = absurd p
not_below (inf s) x w p h l g = absurd p
not_below (fin true m e) x w p h l g = absurd p
not_below (fin false m e) nan w p h l g = absurd h
not_below (fin false m e) (inf true) w p h l g = absurd h
not_below (fin false m e) (inf false) nan p h l g = not_both g refl
not_below (fin false m e) (inf false) (inf true) p h l g = not_both refl l
not_below (fin false m e) (inf false) (inf false) p h l g = tt
not_below (fin false m e) (inf false) (fin s n d) p h l g = not_both refl l
not_below (fin false m e) (fin true n d) w p h l g = absurd (above_of_le (fin false m e) (fin true n d) p h)
not_below (fin false m e) (fin false n d) nan p h l g = not_both g refl
not_below (fin false m e) (fin false n d) (inf true) p h l g = not_both refl l
not_below (fin false m e) (fin false n d) (inf false) p h l g = tt
not_below (fin false m e) (fin false n d) (fin true q c) p h l g =
    let a = above_of_le (fin false m e) (fin false n d) p h in
    let b : 0 < n * up d * fall c = mul-pos (mul-pos (ltb→lt 0 n a) (up_pos d)) (down_pos c) in
    let z : q * up c * fall d + n * up d * fall c ≤ 0 = ltb-false 0 (q * up c * fall d + n * up d * fall c) l in
    absurd (omega arith)
not_below (fin false m e) (fin false n d) (fin false q c) p h l g =
    let a = above_of_le (fin false m e) (fin false n d) p h in
    let b : 0 < n * up d * fall c = mul-pos (mul-pos (ltb→lt 0 n a) (up_pos d)) (down_pos c) in
    let z : n * up d * fall c ≤ q * up c * fall d = ltb-false (q * up c * fall d) (n * up d * fall c) l in
    let k : T (ltb 0 q) = lt→ltb 0 q (first_pos q (up c) (first_pos (q * up c) (fall d) (omega arith))) in
    le_trans_positive (fin false m e) (fin false n d) (fin false q c) p a k h (cross→le (fin false n d) (fin false q c) a k z)

pub tiny_above : (x : Float) → le tiny₆₄ x ≡ true → lt zero₆₄ x ≡ true
unfolding of_bits of_fields odd count_trailing_zeros
tiny_above x h = above_lt x (above_of_le tiny₆₄ x tt (passes (le tiny₆₄ x) h))

tiny_down : (x w : Float) → le tiny₆₄ x ≡ true → lt w x ≡ false → lt zero₆₄ w ≡ true → le tiny₆₄ w ≡ true
unfolding of_bits of_fields odd count_trailing_zeros
tiny_down x w h l g = is_true (le tiny₆₄ w) (not_below tiny₆₄ x w tt (passes (le tiny₆₄ x) h) l g)

-- ONE TEST AT THE ARGMAX says the same as the rule's test of every column

module _ (l : List Float) (on : ℕ → Bool) where
  abbrev large : ℕ → Bool
  large c = on c && le tiny₆₄ (size (get_or l c nan))

  back : any (length l) large ≡ true → (on (argmax l on) ≡ true) × (le tiny₆₄ (size_at l (argmax l on)) ≡ true)
  back u =
      let p = passing (length l) large u in
      let q = (and-eq-true_iff (on p.at) (le tiny₆₄ (size (get_or l p.at nan)))).0 p.passes in
      let c : Counted l on p.at = record { inside = p.on; is_on = q.0 } in
      let f = (argmax_facts l on).first_largest p.at c (tiny_above (size_at l p.at) q.1) in
      (f.counted.is_on, tiny_down (size_at l p.at) (size_at l (argmax l on)) q.1 (f.largest p.at c) f.above_zero)

  -- and then the argmax is an unread column
  pub usable_on : usable true l on (pivot l on) ≡ true → on (pivot l on).place ≡ true
  unfolding usable pivot
  usable_on u = (back u).0

  here : 0 < length l → any (length l) large ≡ large (argmax l on)
  here z =
      by_bool (large (argmax l on))
      (λ h. any_at (length l) large (argmax l on) (argmax_in l on z) h ∙ sym h)
      (λ h. by_bool (any (length l) large)
      (λ u. not_both ((and-eq-true_iff (on (argmax l on)) (le tiny₆₄ (size_at l (argmax l on)))).1 (back u)) h) (λ u. u ∙ sym h))

  pub usable_here_lem : (restart : Bool) → 0 < length l → usable restart l on (pivot l on) ≡ usable_here restart on (pivot l on)
  unfolding usable pivot
  usable_here_lem false z = refl
  usable_here_lem true z = here z ∙ rw ((argmax_facts l on).pivot_size z)
