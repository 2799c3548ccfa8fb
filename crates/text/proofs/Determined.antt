-- The contracts of this crate determine their results: two outcomes that one allows for an input coincide. Assumes nothing.
use mathlib.Core.Path.{◌≡◌, sym, ◌∙◌}
use mathlib.Core.List.{List, [], ◌∷◌, ◌++◌}
use Prim.Native.Nat.{ℕ}
use Rattle.common.proofs.Determined.{coincide}
use Rattle.text.specs.Text.{decimal, spaced, counted, refused_word, unknown_word, put, Ended}

-- the memory and the place of a line: of `Line::new`, and of what puts something there
module _ (line exit exit' : List ℕ) (to r r' : ℕ) where
  new_determined : exit ≡ line → exit' ≡ line → r ≡ 0 → r' ≡ 0 → (r ≡ r') × (exit ≡ exit')
  new_determined e e' h h' = (coincide r r' 0 h h', coincide exit exit' line e e')

  put_determined : (word : List ℕ) → (r, exit) ≡ put to word line → (r', exit') ≡ put to word line →
      ◌≡◌ {A = ℕ × List ℕ} (r, exit) (r', exit')
  put_determined word = coincide (r, exit) (r', exit') (put to word line)

  put_byte_determined : (b : ℕ) → (r, exit) ≡ put to (b ∷ []) line → (r', exit') ≡ put to (b ∷ []) line →
      ◌≡◌ {A = ℕ × List ℕ} (r, exit) (r', exit')
  put_byte_determined b = put_determined (b ∷ [])

  put_number_determined : (n : ℕ) → (r, exit) ≡ put to (decimal n) line → (r', exit') ≡ put to (decimal n) line →
      ◌≡◌ {A = ℕ × List ℕ} (r, exit) (r', exit')
  put_number_determined n = put_determined (decimal n)

  put_next_determined : (n : ℕ) → (r, exit) ≡ put to (spaced n) line → (r', exit') ≡ put to (spaced n) line →
      ◌≡◌ {A = ℕ × List ℕ} (r, exit) (r', exit')
  put_next_determined n = put_determined (spaced n)

  put_counted_determined : (word : List ℕ) (n : ℕ) → (r, exit) ≡ put to (counted word n) line → (r', exit') ≡ put to (counted word n) line →
      ◌≡◌ {A = ℕ × List ℕ} (r, exit) (r', exit')
  put_counted_determined word n = put_determined (counted word n)

  put_refusal_determined : (n : ℕ) → (r, exit) ≡ put to (refused_word ++ spaced n) line →
      (r', exit') ≡ put to (refused_word ++ spaced n) line →
      ◌≡◌ {A = ℕ × List ℕ} (r, exit) (r', exit')
  put_refusal_determined n = put_determined (refused_word ++ spaced n)

  put_unknown_determined : (n : ℕ) → (r, exit) ≡ put to (unknown_word ++ spaced n) line →
      (r', exit') ≡ put to (unknown_word ++ spaced n) line →
      ◌≡◌ {A = ℕ × List ℕ} (r, exit) (r', exit')
  put_unknown_determined n = put_determined (unknown_word ++ spaced n)

  end_determined : Ended to line exit r → Ended to line exit' r' → (r ≡ r') × (exit ≡ exit')
  end_determined e e' = (e.count ∙ sym e'.count, e.line ∙ sym e'.line)
