-- The line of a record: of one whose vector is taken, place by place; and how long it is at most. Assumes nothing.
use mathlib.Core.Path.{◌≡◌, refl, sym}
use mathlib.Core.Bool.{Bool, true, false, cond, not, ◌&&◌, true≢false}
use mathlib.Core.List.{List, [], ◌∷◌, ◌++◌, append-nil, append_assoc}
use mathlib.Core.Option.{Option, none, some}
use Prim.Native.Nat.{ℕ, ◌<◌, ◌≤◌}
use native.Mathlib.Omega.{arith}
use lib.Dec.{eqb}
use lib.ListN.{length, get_or, length-append}
use borrow.Author.Tests.{eq-eqb}
use Rattle.common.specs.Tests.{those}
use Rattle.common.proofs.Cases.{by_bool}
use Rattle.text.specs.Text.{spaced}
use Rattle.text.proofs.Numbers.{decimal_digit, counted_length}
use Rattle.vectors.specs.declared.Known.{Known}
use Rattle.mending_lines.specs.Records.{found, right_for, right, differs, changed, blanked, taken, verdict_for, verdict}
use Rattle.mending_lines.specs.Records.{kept_line, mended_word, blanked_word, places, line}
use Rattle.mending_lines.specs.Working.{place_if, changed_later, no_place}
use Rattle.mending_lines.proofs.Bytes.{refused_most}

-- PLACES

pub places_append : (a b : List ℕ) → places (a ++ b) ≡ places a ++ places b
unfolding places
places_append [] b = refl
places_append (k ∷ a) b = rw (places_append a b, append_assoc (spaced k) (places a) (places b))

-- a place that does not change, and one that does
pub place_same : (k old new : ℕ) → eqb old new ≡ true → places (place_if k old new) ≡ []
unfolding places
place_same k old new e = rw e

pub place_other : (k old new : ℕ) → eqb old new ≡ false → places (place_if k old new) ≡ spaced k
unfolding places
place_other k old new e = rw (e, append-nil (spaced k))

-- the places that change are those of the later four
module _ (l : List ℕ) (n : ℕ) (k : Known) where
  other : (a b : ℕ) (place : ℕ) → cond (not (eqb a b)) (place ∷ []) [] ≡ place_if place a b
  other a b place = by_bool (eqb a b) (λ e. rw e) (λ e. rw e)

  same : (a place : ℕ) → cond (not (eqb a a)) (place ∷ []) [] ≡ []
  same a place = rw (eq-eqb a a refl)

  pub later_changed : changed l (right_for (n, some k) l) ≡ changed_later k l
  unfolding changed differs right_for those changed_later
  later_changed =
      rw (
        same (get_or l 0 0) 0,
        same (get_or l 1 0) 1,
        same (get_or l 2 0) 2,
        same (get_or l 3 0) 3,
        other (get_or l 4 0) k.case 4,
        other (get_or l 5 0) k.reference 5,
        other (get_or l 6 0) 0 6,
        other (get_or l 7 0) 0 7,
        append_assoc,
        append_assoc,
      )

  pub places_later : places (changed_later k l)
      ≡ places (place_if 4 (get_or l 4 0) k.case) ++
      (places (place_if 5 (get_or l 5 0) k.reference) ++ (places (place_if 6 (get_or l 6 0) 0) ++ places (place_if 7 (get_or l 7 0) 0)))
  unfolding changed_later
  places_later = rw (places_append, places_append, places_append)

-- none of them changes where each of the four is right
none_of : (a b c d : Bool) →
    no_place (cond a [] (4 ∷ []) ++ (cond b [] (5 ∷ []) ++ (cond c [] (6 ∷ []) ++ cond d [] (7 ∷ [])))) ≡ (((a && b) && c) && d)
unfolding no_place
none_of false b c d = refl
none_of true false c d = refl
none_of true true false d = refl
none_of true true true false = refl
none_of true true true true = refl

pub none_later : (k : Known) (l : List ℕ) →
    no_place (changed_later k l)
    ≡ (((eqb (get_or l 4 0) k.case && eqb (get_or l 5 0) k.reference) && eqb (get_or l 6 0) 0) && eqb (get_or l 7 0) 0)
unfolding changed_later
none_later k l = none_of (eqb (get_or l 4 0) k.case) (eqb (get_or l 5 0) k.reference) (eqb (get_or l 6 0) 0) (eqb (get_or l 7 0) 0)

-- THE LINE OF A RECORD

pub kept_line_lem : (ks : List ℕ) → no_place ks ≡ true → line (taken ks) ≡ kept_line
unfolding line taken no_place
kept_line_lem [] e = refl
kept_line_lem (k ∷ ks) e = absurd (true≢false (sym e))

pub mended_line : (ks : List ℕ) → no_place ks ≡ false → line (taken ks) ≡ mended_word ++ (places ks ++ 10 ∷ [])
unfolding line taken no_place
mended_line [] e = absurd (true≢false e)
mended_line (k ∷ ks) e = refl

-- by what is found: the vector is refused, or it is taken
module _ (l : List ℕ) (n : ℕ) where
  pub line_refused : found l ≡ (n, none) → line (verdict l) ≡ line (blanked n)
  unfolding verdict verdict_for
  line_refused h = rw h

  pub line_taken : (k : Known) → found l ≡ (n, some k) → line (verdict l) ≡ line (taken (changed_later k l))
  unfolding verdict verdict_for right
  line_taken k h = rw (h, later_changed l n k)

-- HOW LONG a line is at most

place_most : (t : Bool) (k : ℕ) → k < 10 → length (places (cond t [] (k ∷ []))) ≤ 2
unfolding places
place_most true k b = omega arith
place_most false k b = omega (arith, decimal_digit k b, length-append (spaced k) [])

places_most : (k : Known) (l : List ℕ) → length (places (changed_later k l)) ≤ 8
places_most k l =
    rw (places_later l 0 k, length-append, length-append, length-append)
    (omega (
      arith,
      place_most (eqb (get_or l 4 0) k.case) 4 (omega arith),
      place_most (eqb (get_or l 5 0) k.reference) 5 (omega arith),
      place_most (eqb (get_or l 6 0) 0) 6 (omega arith),
      place_most (eqb (get_or l 7 0) 0) 7 (omega arith),
    ))

taken_most : (ks : List ℕ) → length (places ks) ≤ 8 → length (line (taken ks)) ≤ 15
taken_most ks h =
    by_bool (no_place ks)
    (λ e. rw (kept_line_lem ks e) (omega arith))
    (λ e. rw (mended_line ks e) (omega (arith, length-append (places ks) (10 ∷ []))))

most_for : (l : List ℕ) (f : ℕ × Option Known) → found l ≡ f → length (line (verdict l)) ≤ 15
unfolding line
most_for l (n, none) h =
    rw (line_refused l n h)
    (let b = refused_most l n h in omega (arith, counted_length blanked_word n, decimal_digit n (omega arith)))
most_for l (n, some k) h = rw (line_taken l n k h) (taken_most (changed_later k l) (places_most k l))

pub line_most : (l : List ℕ) → length (line (verdict l)) ≤ 15
line_most l = most_for l (found l) refl
