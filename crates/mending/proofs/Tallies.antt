-- A text tells how many records were kept, mended and blanked. Assumes nothing.
use mathlib.Core.Path.{◌≡◌, refl, ◌∙◌}
use mathlib.Core.Bool.{Bool, false, cond}
use mathlib.Core.List.{List, [], ◌∷◌, ◌++◌}
use Prim.Native.Nat.{ℕ, zero, suc, ◌+◌, ◌/◌, ◌%◌, ◌<◌, ◌≤◌}
use native.Mathlib.Nat.{mod-lt}
use native.Mathlib.Omega.{arith}
use lib.Dec.{eqb, ltb}
use lib.ListN.{length, drop}
use borrow.Author.Tests.{ne_eqb, ltb-true}
use Rattle.common.proofs.Cases.{by_bool}
use Rattle.common.proofs.Determined.{coincide}
use Rattle.text.specs.Text.{decimal_in, decimal, spaced, counted}
use Rattle.records.specs.Text.{short_word}
use Rattle.mending_counts.specs.Occurrences.{occurs}
use Rattle.mending_counts.proofs.Occurring.{occurs_append}
use Rattle.mending.specs.declared.Totals.{Totals}
use Rattle.mending_lines.specs.Records.{Verdict, kept, mended, blanked, verdict, mended_word, blanked_word, places, line}
use Rattle.mending.specs.Mending.{whole, tail_line, lines, text}
use Rattle.mending.specs.Tallies.{tally_of, is_kept, is_mended, is_blanked, count_of, tallied}

-- WHAT A LINE TELLS

-- a letter stands in no number
digit_other : (b d : ℕ) → 58 ≤ b → d < 10 → eqb (48 + d) b ≡ false
digit_other b d h l = ne_eqb (48 + d) b (λ e. omega arith)

number_in : (b most n : ℕ) → 58 ≤ b → occurs b (decimal_in most n) ≡ 0
unfolding occurs decimal_in
number_in b zero n h = refl
number_in b (suc k) n h =
    by_bool (ltb n 10)
    (λ e. rw (e, digit_other b n h (ltb-true n 10 e)))
    (λ e. rw (
      e,
      occurs_append b (decimal_in k (n / 10)) ((48 + n % 10) ∷ []),
      number_in b k (n / 10) h,
      digit_other b (n % 10) h (mod-lt n (omega arith)),
    ))

number_none : (b n : ℕ) → 58 ≤ b → occurs b (spaced n) ≡ 0
unfolding occurs decimal
number_none b n h = rw (ne_eqb 32 b (λ e. omega arith), number_in b 20 n h)

places_none : (b : ℕ) (ks : List ℕ) → 58 ≤ b → occurs b (places ks) ≡ 0
unfolding occurs places
places_none b [] h = refl
places_none b (k ∷ ks) h = rw (occurs_append b (spaced k) (places ks), number_none b k h, places_none b ks h)

-- a word, a number and the line's end have the letters of the word
counted_letters : (b : ℕ) (w : List ℕ) (n : ℕ) → 58 ≤ b → occurs b (counted w n) ≡ occurs b w
unfolding occurs
counted_letters b w n h =
    rw (
      occurs_append b w (spaced n ++ 10 ∷ []),
      occurs_append b (spaced n) (10 ∷ []),
      number_none b n h,
      ne_eqb 10 b (λ e. omega arith),
    ) (omega arith)

mended_letters : (b : ℕ) (ks : List ℕ) → 58 ≤ b → occurs b (line (mended ks)) ≡ occurs b mended_word
unfolding occurs line
mended_letters b ks h =
    rw (
      occurs_append b mended_word (places ks ++ 10 ∷ []),
      occurs_append b (places ks) (10 ∷ []),
      places_none b ks h,
      ne_eqb 10 b (λ e. omega arith),
    ) (omega arith)

-- each letter stands once in the lines of its verdict, and in no other
kept_letter : (v : Verdict) → occurs 112 (line v) ≡ cond (is_kept v) 1 0
unfolding occurs line
kept_letter kept = refl
kept_letter (mended ks) = mended_letters 112 ks (omega arith)
kept_letter (blanked n) = counted_letters 112 blanked_word n (omega arith)

mended_letter : (v : Verdict) → occurs 109 (line v) ≡ cond (is_mended v) 1 0
unfolding occurs line
mended_letter kept = refl
mended_letter (mended ks) = mended_letters 109 ks (omega arith)
mended_letter (blanked n) = counted_letters 109 blanked_word n (omega arith)

blanked_letter : (v : Verdict) → occurs 98 (line v) ≡ cond (is_blanked v) 1 0
unfolding occurs line
blanked_letter kept = refl
blanked_letter (mended ks) = mended_letters 98 ks (omega arith)
blanked_letter (blanked n) = counted_letters 98 blanked_word n (omega arith)

-- A TEXT tells the tally of its file

module _ (b : ℕ) (h : 58 ≤ b) (none : occurs b short_word ≡ 0) (is : Verdict → Bool)
    (letter : (v : Verdict) → occurs b (line v) ≡ cond (is v) 1 0) where
  tail_letters : (l : List ℕ) → occurs b (tail_line l) ≡ 0
  unfolding occurs tail_line
  tail_letters [] = refl
  tail_letters (x ∷ l) = counted_letters b short_word (suc (length l)) h ∙ none

  lines_letters : (n : ℕ) (l : List ℕ) → occurs b (lines n l) ≡ count_of is n l
  unfolding lines count_of
  lines_letters zero l = tail_letters l
  lines_letters (suc n) l =
      rw (occurs_append b (line (verdict l)) (lines n (drop 8 l)), letter (verdict l), lines_letters n (drop 8 l))

pub tally_told : (l : List ℕ) → tally_of (text l) ≡ tallied l
unfolding tally_of tallied text occurs
tally_told l =
    rw (
      lines_letters 112 (omega arith) refl is_kept kept_letter (whole l) l,
      lines_letters 109 (omega arith) refl is_mended mended_letter (whole l) l,
      lines_letters 98 (omega arith) refl is_blanked blanked_letter (whole l) l,
    )

-- three letters, each counted by itself
pub told : (t : List ℕ) {k m b : ℕ} → k ≡ occurs 112 t → m ≡ occurs 109 t → b ≡ occurs 98 t →
    ◌≡◌ {A = Totals} (record { kept = k; mended = m; blanked = b }) (tally_of t)
unfolding tally_of
told t {k} {m} {b} p q r = rw (p, q, r)

tally_determined : (t : List ℕ) (r r' : Totals) → r ≡ tally_of t → r' ≡ tally_of t → r ≡ r'
tally_determined t r r' = coincide r r' (tally_of t)
