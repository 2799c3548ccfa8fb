-- Digits that are stored from the last on: what stands there after some of them, and at the end. Assumes nothing.
use Rattle.std.proofs.Common.{◌≡◌, ℕ, suc, ◌+◌, ◌-◌, ◌/◌, ◌%◌, ◌^◌, ◌<◌, ◌≤◌, List, [], ◌∷◌, ◌++◌, length, set, sym, refl, ap, ◌∙◌}
use Rattle.std.proofs.Common.{append_assoc, append-nil, add-one, arith, length-append, length-set}
use lib.Seq.{sets, set_comm}
use Rattle.text.specs.Text.{decimal}
use Rattle.exchange_writing.proofs.Lengths.{decimal_last, decimal_one, decimal_tenth, decimal_least}

-- a byte before a word may be stored before it or after it
set_before : (w l : List ℕ) (i j : ℕ) (x : ℕ) → j < i → set (sets l i w) j x ≡ sets (set l j x) i w
set_before [] l i j x h = refl
set_before (y ∷ w) l i j x h =
    set_before w (set l i y) (suc i) j x (omega arith) ∙ ap (λ (t : List ℕ). sets t (suc i) w) (set_comm l i j y x (λ e. omega arith))

-- one byte more at the front of a word
set_front : (w l : List ℕ) (i : ℕ) (x : ℕ) → set (sets l (i + 1) w) i x ≡ sets l i (x ∷ w)
set_front w l i x = rw add-one (set_before w l (suc i) i x (omega arith))

-- the digits of `rest` are still to be stored, the last of them at place i
pub record Storing (n to : ℕ) (before now : List ℕ) (rest i : ℕ) : Type 0 where
  pub stored : List ℕ
  pub whole : decimal n ≡ decimal rest ++ stored
  pub place : i + 1 ≡ to + length (decimal rest)
  pub made : now ≡ sets before (i + 1) stored
  pub long : length now ≡ length before
  pub small : rest < 2 ^ 64

pub storing_none : (n to i : ℕ) (l : List ℕ) → n < 2 ^ 64 → i + 1 ≡ to + length (decimal n) → Storing n to l l n i
storing_none n to i l h e =
    record { stored = []; whole = sym (append-nil (decimal n)); place = e; made = refl; long = refl; small = h }

module _ {n to rest i : ℕ} {before now : List ℕ} (h : Storing n to before now rest i) where
  pub storing_more : 10 ≤ rest → Storing n to before (set now i (48 + rest % 10)) (rest / 10) (i - 1)
  storing_more l =
      let tenth = decimal_tenth rest l h.small in
      let some = decimal_least (rest / 10) (omega (arith, h.small)) in
      let here : i - 1 + 1 ≡ i = omega (arith, h.place) in
      record {
        stored = (48 + rest % 10) ∷ h.stored;
        whole = h.whole ∙ ap (λ (d : List ℕ). d ++ h.stored) (decimal_last rest l h.small) ∙
            append_assoc (decimal (rest / 10)) ((48 + rest % 10) ∷ []) h.stored;
        place = omega (arith, h.place);
        made = rw (here, h.made) (set_front h.stored before i (48 + rest % 10));
        long = length-set now i (48 + rest % 10) ∙ h.long;
        small = omega (arith, h.small);
      }

  pub storing_later : 10 ≤ rest → 1 ≤ i
  storing_later l =
      omega (arith, h.place, decimal_tenth rest l h.small, decimal_least (rest / 10) (omega (arith, h.small)))

  pub storing_inside : to + length (decimal n) ≤ length before → i < length now
  storing_inside f =
      let all : length (decimal n) ≡ length (decimal rest) + length h.stored = rw length-append at (ap length h.whole) in
      omega (arith, h.place, h.long)

  pub storing_done : rest < 10 → set now i (48 + rest) ≡ sets before to (decimal n)
  storing_done l =
      let one = decimal_one rest l in
      let first : i ≡ to = let e : length (decimal rest) ≡ 1 = ap length one in omega (arith, h.place) in
      let word : decimal n ≡ (48 + rest) ∷ h.stored = h.whole ∙ ap (λ (d : List ℕ). d ++ h.stored) one in
      ap (λ (t : List ℕ). set t i (48 + rest)) h.made ∙ set_front h.stored before i (48 + rest) ∙
      ap (λ (k : ℕ). sets before k ((48 + rest) ∷ h.stored)) first ∙ ap (sets before to) (sym word)
