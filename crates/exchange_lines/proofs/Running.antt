-- Numbers in decimal, read digit by digit: what is known of the digits that are left. Assumes nothing.
use mathlib.Core.Path.{◌≡◌, refl, sym, ◌∙◌}
use mathlib.Core.Bool.{Bool, true, false, cond, not, ◌&&◌, and-false}
use mathlib.Core.List.{List, [], ◌∷◌}
use mathlib.Core.Option.{Option, some, none}
use Prim.Native.Nat.{ℕ, suc, ◌+◌, ◌-◌, ◌*◌, ◌<◌, ◌≤◌}
use native.Mathlib.Omega.{arith}
use lib.Dec.{leb}
use lib.ListN.{length}
use borrow.Author.Tests.{le-leb, lt-leb, leb-true}
use Rattle.common.proofs.Cases.{by_bool, inside_low, inside_high}
use Rattle.exchange_format.specs.Lines.{is_empty, all}
use Rattle.exchange_format.specs.Words.{is_digit, value_from, value, numeral}

-- A BYTE THAT WAS TESTED

pub record Digit (b : ℕ) : Type 0 where
  pub is : is_digit b ≡ true
  pub least : 48 ≤ b
  pub most : b ≤ 57

pub a_digit : (b : ℕ) → is_digit b ≡ true → Digit b
a_digit b d = record { is = d; least = inside_low 48 57 b d; most = inside_high 48 57 b d }

module _ (b : ℕ) (r : Bool) (e : r ≡ is_digit b) where
  pub passes : r ≡ true → Digit b
  passes t = a_digit b (sym e ∙ t)

  pub fails : r ≡ false → is_digit b ≡ false
  fails t = sym e ∙ t

-- DIGIT BY DIGIT

-- what a number is whose first digits gave n, and whose others are still to be read
pub running : (most n : ℕ) → List ℕ → Option ℕ
running most n l = cond (all is_digit l && leb (value_from n l) most) (some (value_from n l)) none

-- more digits make no number less
value_grows : (n : ℕ) (l : List ℕ) → n ≤ value_from n l
unfolding value_from
value_grows n [] = omega arith
value_grows n (d ∷ ds) = let more = value_grows (n * 10 + (d - 48)) ds in omega arith

pub numeral_none : (most : ℕ) (l : List ℕ) → length l ≡ 0 → numeral most l ≡ none
unfolding numeral
numeral_none most [] h = refl
numeral_none most (x ∷ l) h = absurd (let z : suc (length l) ≡ 0 = h in omega arith)

pub running_start : (most : ℕ) (l : List ℕ) → (length l ≡ 0 → ⊥) → running most 0 l ≡ numeral most l
unfolding numeral running
running_start most [] h = absurd (h refl)
running_start most (x ∷ l) h = refl

module _ (most n : ℕ) where
  pub running_digit : (x : ℕ) (l : List ℕ) → is_digit x ≡ true → running most n (x ∷ l) ≡ running most (n * 10 + (x - 48)) l
  unfolding running all value_from
  running_digit x l e = rw e

  pub running_other : (x : ℕ) (l : List ℕ) → is_digit x ≡ false → running most n (x ∷ l) ≡ none
  unfolding running all
  running_other x l e = rw e

  pub running_large : (l : List ℕ) → most < n → running most n l ≡ none
  unfolding running
  running_large l h = rw (lt-leb (value_from n l) most (omega (arith, value_grows n l)), and-false (all is_digit l))

  pub running_end : n ≤ most → running most n [] ≡ some n
  unfolding running all value_from
  running_end l = rw (le-leb n most l)

-- a number that was read is at most the limit
pub numeral_most : (most n : ℕ) (s : List ℕ) → numeral most s ≡ some n → n ≤ most
unfolding numeral
numeral_most most n s = go (not (is_empty s)) (all is_digit s) (value s)
  where
    go : (a b : Bool) (v : ℕ) → ◌≡◌ {A = Option ℕ} (cond (a && (b && leb v most)) (some v) none) (some n) → n ≤ most
    go false b v e = absurd (let z : ◌≡◌ {A = Option ℕ} none (some n) = e in (let q : ◌≡◌ {A = ℕ} 0 1 = cc in omega arith))
    go true false v e = absurd (let z : ◌≡◌ {A = Option ℕ} none (some n) = e in (let q : ◌≡◌ {A = ℕ} 0 1 = cc in omega arith))
    go true true v e =
        by_bool (leb v most)
        (λ t. let q : ◌≡◌ {A = Option ℕ} (some v) (some n) = rw t at e in (let same : v ≡ n = cc in omega (arith, leb-true v most t)))
        (λ t. absurd (let z : ◌≡◌ {A = Option ℕ} none (some n) = rw t at e in (let q : ◌≡◌ {A = ℕ} 0 1 = cc in omega arith)))
