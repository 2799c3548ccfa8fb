-- The call that writes: what the measure of the entries and the lines say of the whole text. Assumes nothing.
use mathlib.Core.Path.{◌≡◌, refl, sym, ap, ◌∙◌}
use mathlib.Core.Bool.{and-false}
use mathlib.Core.List.{List, [], ◌∷◌, ◌++◌, map, append_assoc}
use mathlib.Core.Option.{Option, some, none}
use Prim.Native.Nat.{ℕ, ◌+◌, ◌*◌, ◌<◌, ◌≤◌}
use native.Mathlib.Omega.{arith}
use lib.Dec.{leb}
use lib.IntN.{ℤ}
use lib.Ieee.{Float}
use lib.ListN.{length, drop}
use borrow.Author.Tests.{le-leb, lt-leb, eq-eqb, ne_eqb}
use Rattle.common.specs.Refusals.{wrong_length, no_size, most_entries}
use Rattle.text.specs.Text.{decimal, put}
use Rattle.text.proofs.Putting.{put_front}
use Rattle.exchange_format.specs.Lines.{newline, space}
use Rattle.exchange_format.specs.Words.{banner, kind, Size}
use Rattle.exchange_format.specs.Reading.{Outcome, refuse, give, then, one_more}
use Rattle.exchange_format.specs.Writing.{unlines, integer, file_lines, written, whole_of, wholes, fitting_text, writing}
use Rattle.exchange_format.specs.Calls.{size_from, written_of, write_call}
use Rattle.exchange_writing.specs.Working.{spell, spelled, head_text, measured}
use Rattle.exchange_writing.proofs.Spellings.{spelled_size}

-- THE WHOLE TEXT

-- whole entries are the lines of their numbers
lines_of : (k : ℕ) (b : List Float) (xs : List ℤ) → wholes k b ≡ give xs → spelled b ≡ unlines (map integer xs)
unfolding wholes spelled unlines
lines_of k [] xs e = let q : [] ≡ xs = cc in rw (← q)
lines_of k (x ∷ b) xs e = go (λ ys. lines_of (k + 1) b ys) (whole_of x) refl (wholes (k + 1) b) refl e
  where
    go : ((ys : List ℤ) → wholes (k + 1) b ≡ give ys → spelled b ≡ unlines (map integer ys)) → (o : Option ℤ) → whole_of x ≡ o →
        (rest : Outcome (List ℤ)) → wholes (k + 1) b ≡ rest → one_more k o rest ≡ give xs →
        spell (whole_of x) ++ spelled b ≡ unlines (map integer xs)
    go later none p rest q w = absurd (let z : ◌≡◌ {A = ℕ} 0 1 = cc in omega arith)
    go later (some z) p (refuse m j) q w = absurd (let y : ◌≡◌ {A = ℕ} 0 1 = cc in omega arith)
    go later (some z) p (give ys) q w = let s : z ∷ ys ≡ xs = cc in rw (← s, p, later ys q, append_assoc)

join : (h a b u : List ℕ) →
    h ++ (newline ∷ ((a ++ (space ∷ b)) ++ (newline ∷ u))) ≡ (((((h ++ newline ∷ []) ++ a) ++ space ∷ []) ++ b) ++ newline ∷ []) ++ u
join h a b u = simp append_assoc

written_text : (s : Size) (b : List Float) (xs : List ℤ) → wholes 3 b ≡ give xs →
    written (record { sizes = s; whole = xs }) ≡ head_text s.rows s.columns ++ spelled b
unfolding written file_lines unlines head_text
written_text s b xs e =
    rw (lines_of 3 b xs e) (join (banner ++ kind) (decimal s.rows) (decimal s.columns) (unlines (map integer xs)))

module _ (text : List ℕ) (t : List ℕ) where
  pub text_short : length text < length t → ((wrong_length, 0, none), text) ≡ written_of text (fitting_text (length text) t)
  text_short h = rw (lt-leb (length t) (length text) h)

  pub text_fits : length t ≤ length text → (after : List ℕ) (n : ℕ) → (n, after) ≡ put 0 t text →
      ((0, 0, some n), after) ≡ written_of text (fitting_text (length text) t)
  text_fits h after n w =
      let whole : ◌≡◌ {A = ℕ × List ℕ} (n, after) (length t, t ++ drop (length t) text) = w ∙ put_front t text h in
      let count : n ≡ length t = ap (λ (x : ℕ × List ℕ). x.0) whole in
      let bytes : after ≡ t ++ drop (length t) text = ap (λ (x : ℕ × List ℕ). x.1) whole in
      rw (le-leb (length t) (length text) h, count, bytes)

-- THE CALL

module _ (r c : ℕ) (b : List Float) (text : List ℕ) where
  pub rows_over : most_entries < r → ((no_size, 2, none), text) ≡ write_call r c b text
  unfolding write_call writing
  rows_over h = rw (lt-leb r most_entries h)

  pub columns_over : most_entries < c → ((no_size, 2, none), text) ≡ write_call r c b text
  unfolding write_call writing
  columns_over h = rw (lt-leb c most_entries h, and-false (leb r most_entries))

  module _ (h : r ≤ most_entries) (k : c ≤ most_entries) where
    pub block_other : (length b ≡ r * c → ⊥) → ((wrong_length, 0, none), text) ≡ write_call r c b text
    unfolding write_call writing
    block_other d = rw (le-leb r most_entries h, le-leb c most_entries k, ne_eqb (length b) (r * c) d)

    module _ (l : length b ≡ r * c) where
      pub block_fault : (n j : ℕ) → refuse n j ≡ measured (wholes 3 b) → ((n, j, none), text) ≡ write_call r c b text
      unfolding write_call writing
      block_fault n j e = rw (le-leb r most_entries h, le-leb c most_entries k, eq-eqb (length b) (r * c) l) (go (wholes 3 b) e)
        where
          go : (o : Outcome (List ℤ)) → refuse n j ≡ measured o →
              ((n, j, none), text) ≡ written_of text
              (then o (λ xs. fitting_text (length text) (written (record { sizes = size_from r c; whole = xs }))))
          go (refuse m i) q =
              let a : n ≡ m = cc in
              let z : j ≡ i = cc in
              rw (a, z)
          go (give xs) q = absurd (let z : ◌≡◌ {A = ℕ} 0 1 = cc in omega arith)

      module _ (m : ℕ) (e : give m ≡ measured (wholes 3 b)) where
        record Good : Type 0 where
          whole : List ℤ
          is : wholes 3 b ≡ give whole

        good : (o : Outcome (List ℤ)) → wholes 3 b ≡ o → give m ≡ measured o → Good
        good (refuse n i) s q = absurd (let z : ◌≡◌ {A = ℕ} 0 1 = cc in omega arith)
        good (give xs) s q = record { whole = xs; is = s }

        -- how long the lines are together
        pub block_long : (m ≡ length (spelled b)) × (m ≤ 22 * length b)
        block_long =
            let g = good (wholes 3 b) refl e in
            let w : give m ≡ give (length (unlines (map integer g.whole))) = e ∙ ap measured g.is in
            let same : m ≡ length (unlines (map integer g.whole)) = cc in
            let long : m ≡ length (spelled b) = same ∙ sym (ap length (lines_of 3 b g.whole g.is)) in
            (long, omega (arith, spelled_size b))

        pub block_good : (told : (ℕ × ℕ × Option ℕ) × List ℕ) →
            told ≡ written_of text (fitting_text (length text) (head_text r c ++ spelled b)) → told ≡ write_call r c b text
        unfolding write_call writing
        block_good told w =
            let g = good (wholes 3 b) refl e in
            rw (
              le-leb r most_entries h,
              le-leb c most_entries k,
              eq-eqb (length b) (r * c) l,
              g.is,
              written_text (size_from r c) b g.whole g.is,
            ) w
