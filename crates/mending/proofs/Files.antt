-- What is promised of a whole file: each record of the mended one is right, mending it again changes nothing, there are as many records
-- as before, and a file may be cut between records. Assumes nothing.
use mathlib.Core.Path.{◌≡◌, refl, ◌∙◌}
use mathlib.Core.List.{List, [], ◌∷◌, ◌++◌, append_assoc}
use Prim.Native.Nat.{ℕ, zero, suc, ◌+◌, ◌*◌, ◌<◌, ◌≤◌}
use native.Mathlib.Omega.{arith}
use native.Mathlib.Nat.{not-suc-le-zero}
use lib.ListN.{length, take, drop, length-append, length-drop}
use lib.Seq.{take_at, drop_at, drop-drop, drop-append-le}
use Rattle.mending_lines.specs.Records.{right, verdict, kept, line}
use Rattle.mending.specs.Mending.{whole, mended_records, mended_file, tail_line, lines, text}
use Rattle.mending.specs.Promises.{IsRight}
use Rattle.mending.proofs.Records.{right_size, right_right, is_right, right_front, verdict_front}
use Rattle.mending.proofs.Verdicts.{kept_unchanged}

-- SIZE

records_size : (n : ℕ) (l : List ℕ) → length (mended_records n l) ≡ 8 * n
unfolding mended_records
records_size zero l = refl
records_size (suc n) l = rw (length-append, right_size l, records_size n (drop 8 l)) (omega arith)

pub file_size : (l : List ℕ) → length (mended_file l) ≡ 8 * whole l
unfolding mended_file
file_size l = records_size (whole l) l

-- as many whole records as before
pub file_whole : (l : List ℕ) → whole (mended_file l) ≡ whole l
file_whole l = omega (arith, file_size l)

-- TWICE IS ONCE

records_again : (n : ℕ) (l : List ℕ) → mended_records n (mended_records n l) ≡ mended_records n l
unfolding mended_records
records_again zero l = refl
records_again (suc n) l =
    rw (
      right_right l (mended_records n (drop 8 l)),
      drop_at (right l) (mended_records n (drop 8 l)) 8 (right_size l),
      records_again n (drop 8 l),
    )

-- mending a mended file changes no byte
pub file_again : (l : List ℕ) → mended_file (mended_file l) ≡ mended_file l
unfolding mended_file
file_again l = rw (file_whole l) (records_again (whole l) l)

-- RECORD BY RECORD

-- record k of the mended file is the right one of record k
records_at : (n : ℕ) (l : List ℕ) (k : ℕ) → k < n → take 8 (drop (8 * k) (mended_records n l)) ≡ right (drop (8 * k) l)
unfolding mended_records
records_at zero l k b = absurd (not-suc-le-zero b)
records_at (suc n) l zero b = take_at (right l) (mended_records n (drop 8 l)) 8 (right_size l)
records_at (suc n) l (suc k) b =
    let e : 8 * suc k ≡ 8 + 8 * k = omega arith in
    rw (
      e,
      ← drop-drop (8 * k) 8 (right l ++ mended_records n (drop 8 l)),
      drop_at (right l) (mended_records n (drop 8 l)) 8 (right_size l),
      records_at n (drop 8 l) k (omega arith),
      drop-drop (8 * k) 8 l,
    )

module _ (l : List ℕ) (k : ℕ) (b : k < whole l) where
  pub file_at : take 8 (drop (8 * k) (mended_file l)) ≡ right (drop (8 * k) l)
  unfolding mended_file
  file_at = records_at (whole l) l k b

  -- each is right: its later bytes are the lookup's, or all eight are zero
  pub file_right : IsRight (take 8 (drop (8 * k) (mended_file l)))
  file_right = rw file_at (is_right (drop (8 * k) l))

  -- a kept one is the one that was read
  pub file_kept : verdict (drop (8 * k) l) ≡ kept → take 8 (drop (8 * k) (mended_file l)) ≡ take 8 (drop (8 * k) l)
  file_kept v = file_at ∙ kept_unchanged (drop (8 * k) l) (omega (arith, length-drop (8 * k) l)) v

-- CUT BETWEEN RECORDS

module _ (b : List ℕ) (m : ℕ) where
  records_cut : (n : ℕ) (a : List ℕ) → length a ≡ 8 * n → mended_records (n + m) (a ++ b) ≡ mended_records n a ++ mended_records m b
  unfolding mended_records
  records_cut zero [] h = let e : 0 + m ≡ m = omega arith in rw e
  records_cut zero (x ∷ a) h = absurd (omega arith)
  records_cut (suc n) a h =
      let e : suc n + m ≡ suc (n + m) = omega arith in
      let k : 8 ≤ length a = omega arith in
      rw (
        e,
        right_front a b k,
        drop-append-le 8 a b k,
        records_cut n (drop 8 a) (length-drop 8 a ∙ omega arith),
        append_assoc (right a) (mended_records n (drop 8 a)) (mended_records m b),
      )

  lines_cut : (n : ℕ) (a : List ℕ) → length a ≡ 8 * n → lines (n + m) (a ++ b) ≡ lines n a ++ lines m b
  unfolding lines tail_line
  lines_cut zero [] h = let e : 0 + m ≡ m = omega arith in rw e
  lines_cut zero (x ∷ a) h = absurd (omega arith)
  lines_cut (suc n) a h =
      let e : suc n + m ≡ suc (n + m) = omega arith in
      let k : 8 ≤ length a = omega arith in
      rw (
        e,
        verdict_front a b k,
        drop-append-le 8 a b k,
        lines_cut n (drop 8 a) (length-drop 8 a ∙ omega arith),
        append_assoc (line (verdict a)) (lines n (drop 8 a)) (lines m b),
      )

-- the parts of a file that is cut between records are mended, and spoken of, each by itself
module _ (n : ℕ) (a b : List ℕ) (h : length a ≡ 8 * n) where
  count_a : whole a ≡ n
  count_a = omega arith

  count_both : whole (a ++ b) ≡ n + whole b
  count_both = omega (arith, length-append a b)

  pub file_cut : mended_file (a ++ b) ≡ mended_file a ++ mended_file b
  unfolding mended_file
  file_cut = rw (count_both, count_a) (records_cut b (whole b) n a h)

  pub text_cut : text (a ++ b) ≡ text a ++ text b
  unfolding text
  text_cut = rw (count_both, count_a) (lines_cut b (whole b) n a h)
