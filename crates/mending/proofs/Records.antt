-- One record: its right bytes are eight, are right themselves, and depend on its first eight bytes alone. Assumes nothing.
use mathlib.Core.Path.{◌≡◌, refl, ◌∙◌}
use mathlib.Core.Logic.{inl, inr}
use mathlib.Core.Bool.{Bool}
use mathlib.Core.List.{List, ◌++◌}
use mathlib.Core.Option.{Option, none, some}
use Prim.Native.Nat.{ℕ, zero, suc, ◌<◌, ◌≤◌}
use native.Mathlib.Omega.{arith}
use lib.ListN.{length, get_or, get_or-append}
use Rattle.common.specs.Tests.{those}
use Rattle.vectors.specs.declared.Known.{Known}
use Rattle.vectors.specs.LookUps.{look_up, look_up_number}
use Rattle.records.specs.Text.{signed}
use Rattle.mending_lines.specs.Records.{found, right_for, right, differs, changed, verdict}
use Rattle.mending.specs.Promises.{IsRight}
use Rattle.mending_lines.proofs.Bytes.{found_number}

pub for_size : (f : ℕ × Option Known) (l : List ℕ) → length (right_for f l) ≡ 8
unfolding right_for
for_size (n, none) l = refl
for_size (n, some k) l = refl

pub right_size : (l : List ℕ) → length (right l) ≡ 8
unfolding right
right_size l = for_size (found l) l

-- the right bytes are right themselves, whatever follows them
pub for_right : (f : ℕ × Option Known) (l rest : List ℕ) → found l ≡ f → right (right_for f l ++ rest) ≡ right_for f l
unfolding right found right_for look_up look_up_number signed
for_right (n, none) l rest h = refl
for_right (n, some k) l rest h = rw h

pub right_right : (l rest : List ℕ) → right (right l ++ rest) ≡ right l
unfolding right
right_right l rest = for_right (found l) l rest refl

-- they are the lookup's, or eight zeros
is_right_for : (f : ℕ × Option Known) (l : List ℕ) → found l ≡ f → IsRight (right_for f l)
unfolding found right_for
is_right_for (n, none) l h = inl refl
is_right_for (n, some k) l h =
    inr (record {
      known = k;
      taken = h ∙ rw (found_number l n k h);
      size = refl;
      case_byte = refl;
      reference_byte = refl;
      first_zero = refl;
      second_zero = refl;
    })

pub is_right : (l : List ℕ) → IsRight (right l)
unfolding right
is_right l = is_right_for (found l) l refl

-- WHAT FOLLOWS a record does not matter

abbrev pub Alike : (l l' : List ℕ) → Type 0
Alike l l' = (k : ℕ) → k < 8 → get_or l' k 0 ≡ get_or l k 0

found_alike : (l l' : List ℕ) → Alike l l' → found l' ≡ found l
unfolding found
found_alike l l' h = rw (h 0 (omega arith), h 1 (omega arith), h 2 (omega arith), h 3 (omega arith))

for_alike : (f : ℕ × Option Known) (l l' : List ℕ) → Alike l l' → right_for f l' ≡ right_for f l
unfolding right_for
for_alike (n, none) l l' h = refl
for_alike (n, some k) l l' h = rw (h 0 (omega arith), h 1 (omega arith), h 2 (omega arith), h 3 (omega arith))

right_alike : (l l' : List ℕ) → Alike l l' → right l' ≡ right l
unfolding right
right_alike l l' h = rw (found_alike l l' h) (for_alike (found l) l l' h)

pub those_same : (n : ℕ) (f g : ℕ → Bool) → ((k : ℕ) → k < n → f k ≡ g k) → those n f ≡ those n g
unfolding those
those_same zero f g h = refl
those_same (suc n) f g h = rw (those_same n f g (λ k b. h k (omega arith)), h n (omega arith))

verdict_alike : (l l' : List ℕ) → Alike l l' → verdict l' ≡ verdict l
unfolding verdict changed differs
verdict_alike l l' h =
    rw (
      found_alike l l' h,
      right_alike l l' h,
      those_same 8 (differs l' (right l)) (differs l (right l)) (λ k b. rw (h k b)),
    )

module _ (l rest : List ℕ) (h : 8 ≤ length l) where
  front_alike : Alike l (l ++ rest)
  front_alike k b = get_or-append l rest 0 k (omega arith)

  pub right_front : right (l ++ rest) ≡ right l
  right_front = right_alike l (l ++ rest) front_alike

  pub verdict_front : verdict (l ++ rest) ≡ verdict l
  verdict_front = verdict_alike l (l ++ rest) front_alike
