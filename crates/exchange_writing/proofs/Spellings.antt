-- The lines of entries, one after the other, and how long they are; and how long the first lines are. Assumes nothing.
use Rattle.std.proofs.Common.{◌≡◌, ℕ, suc, ◌+◌, ◌-◌, ◌*◌, ◌<◌, ◌≤◌, min, true, false, List, [], ◌∷◌, ◌++◌, length, get_or, take, drop}
use Rattle.std.proofs.Common.{ℤ, pos, negsuc, sym, refl, ap, ◌∙◌, append_assoc, append-nil, zero-le, add-one, arith, length-append}
use Rattle.std.proofs.Common.{drop_of_length-le, take_all, drop-cons, take-suc}
use mathlib.Core.Option.{Option, some, none}
use lib.Ieee.{Float, nan}
use Rattle.common.specs.Refusals.{bad_entry}
use Rattle.text.specs.Text.{decimal, put}
use Rattle.text.proofs.Numbers.{decimal_length}
use Rattle.exchange_format.specs.Lines.{newline}
use Rattle.exchange_format.specs.Reading.{Outcome, refuse, give, then, one_more}
use Rattle.exchange_format.specs.Writing.{unlines, integer, whole_of, wholes}
use Rattle.exchange_writing.specs.Working.{number_of, spell, spelt, spelled, signed_line, head_text, measured}
use Rattle.std.specs.Prelude.{Some, None}
use Rattle.exchange_writing.specs.declared.wholes.Whole.{Whole}

-- NO WORD

pub put_nothing : (to : ℕ) (l : List ℕ) → ◌≡◌ {A = ℕ × List ℕ} (to, l) (put to [] l)
put_nothing to l = let none : to + min 0 (length l - to) ≡ to = omega arith in rw none

-- ONE ENTRY

no_number : (o : Option ℤ) → None ≡ number_of o → o ≡ none
no_number none e = refl
no_number (some (pos n)) e = absurd (let z : ◌≡◌ {A = ℕ} 0 1 = cc in omega arith)
no_number (some (negsuc n)) e = absurd (let z : ◌≡◌ {A = ℕ} 0 1 = cc in omega arith)

-- a number that is found is spelt with its sign
record Spelt (w : Whole) (o : Option ℤ) : Type 0 where
  number : ℤ
  is : o ≡ some number
  line : integer number ++ newline ∷ [] ≡ signed_line w.is_negative w.size

a_number : (w : Whole) (o : Option ℤ) → Some w ≡ number_of o → Spelt w o
unfolding integer
a_number w none e = absurd (let z : ◌≡◌ {A = ℕ} 0 1 = cc in omega arith)
a_number w (some (pos m)) e =
    let q : w ≡ record { is_negative = false; size = m } = cc in
    record { number = pos m; is = refl; line = rw q }
a_number w (some (negsuc m)) e =
    let q : w ≡ record { is_negative = true; size = suc m } = cc in
    record { number = negsuc m; is = refl; line = rw q }

pub spelling : (w : Whole) (o : Option ℤ) → Some w ≡ number_of o → spell o ≡ signed_line w.is_negative w.size
spelling w o e = let h = a_number w o e in ap spell h.is ∙ h.line

most : (o : Option ℤ) → length (spell o) ≤ 22
unfolding integer
most none = zero-le
most (some (pos n)) = rw length-append (omega (arith, decimal_length n))
most (some (negsuc n)) = rw length-append (omega (arith, decimal_length (suc n)))

pub spelt_most : (x : Float) → length (spelt x) ≤ 22
spelt_most x = most (whole_of x)

-- ALL ENTRIES

step : (b : List Float) (i : ℕ) → i < length b → drop i b ≡ get_or b i nan ∷ drop (i + 1) b
step b i h = rw (add-one, drop-cons b i nan)

pub spelled_size : (b : List Float) → length (spelled b) ≤ 22 * length b
unfolding spelled
spelled_size [] = zero-le
spelled_size (x ∷ b) = rw length-append (omega (arith, spelled_size b, spelt_most x))

pub spelled_none : spelled [] ≡ []
unfolding spelled
spelled_none = refl

spelled_append : (a b : List Float) → spelled (a ++ b) ≡ spelled a ++ spelled b
unfolding spelled
spelled_append [] b = refl
spelled_append (x ∷ a) b = rw (spelled_append a b, append_assoc)

pub spelled_more : (b : List Float) (i : ℕ) → i < length b → spelled (take (i + 1) b) ≡ spelled (take i b) ++ spelt (get_or b i nan)
unfolding spelled
spelled_more b i h = rw (add-one, take-suc b i nan, spelled_append, append-nil)

pub spelled_all : (b : List Float) (i : ℕ) → length b ≤ i → spelled (take i b) ≡ spelled b
spelled_all b i h = ap spelled (take_all i b h)

-- THE MEASURE

-- so many bytes more
pub added : ℕ → Outcome ℕ → Outcome ℕ
added s (refuse n k) = refuse n k
added s (give m) = give (s + m)

pub added_none : (m : Outcome ℕ) → added 0 m ≡ m
unfolding added
added_none (refuse n k) = refl
added_none (give m) = ap give (omega arith)

added_twice : (s t : ℕ) (m : Outcome ℕ) → added (s + t) m ≡ added s (added t m)
unfolding added
added_twice s t (refuse n k) = refl
added_twice s t (give m) = ap give (omega arith)

measured_more : (z : ℤ) (o : Outcome (List ℤ)) → added (length (spell (some z))) (measured o) ≡ measured (then o (λ xs. give (z ∷ xs)))
unfolding added unlines
measured_more z (refuse n k) = refl
measured_more z (give xs) = ap give (simp length-append (omega arith))

wholes_here : (k : ℕ) (b : List Float) (i : ℕ) → i < length b → wholes k (drop i b) ≡ one_more k (whole_of (get_or b i nan))
    (wholes (k + 1) (drop (i + 1) b))
unfolding wholes
wholes_here k b i h = rw (step b i h)

module _ (k : ℕ) (b : List Float) (i sum : ℕ) (r : Outcome ℕ) (says : added sum (measured (wholes k (drop i b))) ≡ r) where
  pub measured_all : length b ≤ i → give sum ≡ r
  unfolding wholes added unlines
  measured_all h =
      let all : wholes k (drop i b) ≡ give [] = rw (drop_of_length-le b h) in
      ap give (omega arith) ∙ sym (ap (λ (o : Outcome (List ℤ)). added sum (measured o)) all) ∙ says

  later : Outcome (List ℤ)
  later = wholes (k + 1) (drop (i + 1) b)

  module _ (h : i < length b) where
    pub measured_bad : None ≡ number_of (whole_of (get_or b i nan)) → refuse bad_entry k ≡ r
    unfolding added later
    measured_bad e =
        let bad : wholes k (drop i b) ≡ refuse bad_entry k =
        wholes_here k b i h ∙ ap (λ (o : Option ℤ). one_more k o later) (no_number (whole_of (get_or b i nan)) e) in
        sym (ap (λ (o : Outcome (List ℤ)). added sum (measured o)) bad) ∙ says

    pub measured_on : (w : Whole) (d : ℕ) → Some w ≡ number_of (whole_of (get_or b i nan)) →
        d ≡ length (signed_line w.is_negative w.size) → added (sum + d) (measured (wholes (k + 1) (drop (i + 1) b))) ≡ r
    unfolding later
    measured_on w d e q =
        let g = a_number w (whole_of (get_or b i nan)) e in
        let line : d ≡ length (spell (some g.number)) = q ∙ sym (ap length g.line) in
        let here : wholes k (drop i b) ≡ one_more k (some g.number) later =
        wholes_here k b i h ∙ ap (λ (o : Option ℤ). one_more k o later) g.is in
        added_twice sum d (measured later) ∙
        ap (added sum) (ap (λ (m : ℕ). added m (measured later)) line ∙ measured_more g.number later ∙ ap measured (sym here)) ∙ says

-- THE FIRST LINES

pub head_length : (r c : ℕ) → length (head_text r c) ≡ length (decimal r) + length (decimal c) + 46
unfolding head_text
head_length r c = simp length-append (omega arith)
