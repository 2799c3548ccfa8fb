-- A loop that reads a list from place i on: what each turn, and each way out, says of the part from i on. Assumes nothing.
use mathlib.Core.Path.{◌≡◌, refl, sym, ap, ◌∙◌}
use mathlib.Core.List.{List, [], ◌∷◌}
use Prim.Native.Nat.{ℕ, ◌+◌, ◌-◌, ◌<◌, ◌≤◌, zero-le}
use native.Mathlib.Nat.{not-suc-le-zero}
use native.Mathlib.Numerals.{add-one}
use native.Mathlib.Omega.{arith}
use lib.Dec.{eqb}
use lib.ListN.{length, get_or, take, drop, length-drop, drop_of_length-le}
use lib.Seq.{drop-cons, drop-drop}
use Rattle.common.proofs.Cases.{by_bool}
use Rattle.exchange_format.specs.Lines.{newline, onto, lines, before, from, same}
use Rattle.exchange_lines.specs.Working.{Cut}

pub step : (s : List ℕ) (i : ℕ) → i < length s → drop i s ≡ get_or s i 0 ∷ drop (i + 1) s
step s i h = rw (add-one, drop-cons s i 0)

pub done : (s : List ℕ) (i : ℕ) → length s ≤ i → drop i s ≡ []
done s i h = drop_of_length-le s h

-- BEFORE A BYTE, AND FROM IT ON

-- the parts before and from a byte on are parts of the list
pub before_most : (b : ℕ) (s : List ℕ) → length (before b s) ≤ length s
unfolding before
before_most b [] = zero-le
before_most b (x ∷ s) = by_bool (eqb x b) (λ e. rw e (omega arith)) (λ e. rw e (let less = before_most b s in omega arith))

pub before_take : (b : ℕ) (s : List ℕ) → take (length (before b s)) s ≡ before b s
unfolding before
before_take b [] = refl
before_take b (x ∷ s) = by_bool (eqb x b) (λ e. rw e) (λ e. rw e (ap (λ (t : List ℕ). x ∷ t) (before_take b s)))

pub from_drop : (b : ℕ) (s : List ℕ) → drop (length (before b s)) s ≡ from b s
unfolding before from
from_drop b [] = refl
from_drop b (x ∷ s) = by_bool (eqb x b) (λ e. rw e) (λ e. rw e (from_drop b s))

-- LINES

-- the first line ends before the first newline, and the others begin past it
pub lines_cons : (x : ℕ) (s : List ℕ) → lines (x ∷ s) ≡ before newline (x ∷ s) ∷ lines (drop 1 (from newline (x ∷ s)))
unfolding lines before from onto
lines_cons x [] = by_bool (eqb x newline) (λ e. rw e) (λ e. rw e)
lines_cons x (y ∷ s) =
    by_bool (eqb x newline) (λ e. rw e) (λ e. rw e (ap (onto x) (lines_cons y s)))

pub lines_first : (s : List ℕ) → get_or (lines s) 0 [] ≡ before newline s
unfolding lines before
lines_first [] = refl
lines_first (x ∷ s) = ap (λ (l : List (List ℕ)). get_or l 0 []) (lines_cons x s)

pub lines_rest : (s : List ℕ) → drop 1 (lines s) ≡ lines (drop 1 (from newline s))
unfolding lines from
lines_rest [] = refl
lines_rest (x ∷ s) = ap (drop 1) (lines_cons x s)

pub lines_none : (text : List ℕ) (at : ℕ) → length text ≤ at → lines (drop at text) ≡ []
unfolding lines
lines_none text at h = rw (done text at h)

some_line : (s : List ℕ) → 0 < length s → lines s ≡ get_or (lines s) 0 [] ∷ drop 1 (lines s)
some_line [] h = absurd (not-suc-le-zero h)
some_line (x ∷ s) h = rw (lines_first (x ∷ s), lines_rest (x ∷ s)) (lines_cons x s)

-- where the text goes on there is a line
pub lines_some : (text : List ℕ) (at : ℕ) → at < length text → lines (drop at text) ≡ get_or (lines (drop at text)) 0 [] ∷ drop 1
    (lines (drop at text))
lines_some text at h = some_line (drop at text) (omega (arith, length-drop at text))

-- the cut of a line, from the place of its newline
module _ (text : List ℕ) (at end : ℕ) (h : at ≤ length text) (e : end ≡ at + length (before newline (drop at text))) where
  pub end_most : end ≤ length text
  end_most = omega (arith, before_most newline (drop at text), length-drop at text)

  -- where the text goes on the line has a byte, or a newline after it
  long : at < length text → end < length text → at < end + 1
  long l m = omega arith

  -- what stands past the newline
  pub past_line : drop 1 (from newline (drop at text)) ≡ drop (end + 1) text
  past_line =
      ap (drop 1) (sym (from_drop newline (drop at text)) ∙ drop-drop (length (before newline (drop at text))) at text ∙
      ap (λ (k : ℕ). drop k text) (sym e)) ∙ drop-drop 1 end text

  pub cut : (next : ℕ) → next ≤ length text → drop next text ≡ drop (end + 1) text → (at < length text → at < next) → Cut text at end next
  cut next within same further =
      record {
        least = omega arith;
        most = end_most;
        within = within;
        further = further;
        line =
            let size : end - at ≡ length (before newline (drop at text)) = omega arith in
            rw size (before_take newline (drop at text) ∙ sym (lines_first (drop at text)));
        rest = ap lines (same ∙ sym past_line) ∙ sym (lines_rest (drop at text));
      }

  pub cut_inside : end < length text → Cut text at end (end + 1)
  cut_inside l = cut (end + 1) (omega arith) refl (λ m. omega arith)

  ended : length text ≤ end → at < length text → at < end
  ended m l = omega (arith, end_most)

  pub cut_last : length text ≤ end → Cut text at end end
  cut_last l = cut end end_most (done text end l ∙ sym (done text (end + 1) (omega arith))) (ended l)
