-- The text of a file, line by line from a place on, and how long it is at most. Assumes nothing.
use mathlib.Core.Path.{◌≡◌, refl, ap, ◌∙◌}
use mathlib.Core.List.{List, [], ◌∷◌, ◌++◌}
use Prim.Native.Nat.{ℕ, zero, suc, ◌+◌, ◌-◌, ◌*◌, ◌/◌, ◌<◌, ◌≤◌}
use native.Mathlib.Omega.{arith}
use lib.ListN.{length, drop, length-append, length-drop}
use lib.Seq.{drop-drop}
use Rattle.records.specs.Text.{short}
use Rattle.records.proofs.Lines.{short_size}
use Rattle.mending_lines.specs.Records.{right, verdict, line}
use Rattle.mending_lines.proofs.Lines.{line_most}
use Rattle.mending.specs.Mending.{whole, mended_records, mended_file, tail_line, lines, text}

-- THE FILE, from a place on

module _ (l : List ℕ) (h : 8 ≤ length l) where
  one_fewer : whole l ≡ suc (whole (drop 8 l))
  one_fewer = omega (arith, length-drop 8 l)

  file_step : mended_file l ≡ right l ++ mended_file (drop 8 l)
  unfolding mended_file mended_records
  file_step = rw one_fewer

  text_step : text l ≡ line (verdict l) ++ text (drop 8 l)
  unfolding text lines
  text_step = rw one_fewer

-- the record at a place, and then the rest
module _ (l : List ℕ) (at : ℕ) (h : at + 8 ≤ length l) where
  pub file_record : mended_file (drop at l) ≡ right (drop at l) ++ mended_file (drop (at + 8) l)
  file_record = rw (← drop-drop 8 at l) (file_step (drop at l) (omega (arith, length-drop at l)))

  pub text_record : text (drop at l) ≡ line (verdict (drop at l)) ++ text (drop (at + 8) l)
  text_record = rw (← drop-drop 8 at l) (text_step (drop at l) (omega (arith, length-drop at l)))

-- record i, and then the rest
module _ (l : List ℕ) (i : ℕ) (h : i < length l / 8) where
  on : i * 8 + 8 ≡ (i + 1) * 8
  on = omega arith

  pub file_next : mended_file (drop (i * 8) l) ≡ right (drop (i * 8) l) ++ mended_file (drop ((i + 1) * 8) l)
  file_next = rw on at (file_record l (i * 8) (omega arith))

  pub text_next : text (drop (i * 8) l) ≡ line (verdict (drop (i * 8) l)) ++ text (drop ((i + 1) * 8) l)
  text_next = rw on at (text_record l (i * 8) (omega arith))

-- the tail
no_records : (l : List ℕ) → length l < 8 → whole l ≡ 0
no_records l h = omega arith

file_tail : (l : List ℕ) → length l < 8 → mended_file l ≡ []
unfolding mended_file mended_records
file_tail l h = rw (no_records l h)

text_tail : (l : List ℕ) → length l < 8 → text l ≡ tail_line l
unfolding text lines
text_tail l h = rw (no_records l h)

tail_short : (l : List ℕ) → 0 < length l → tail_line l ≡ short (length l)
unfolding tail_line
tail_short [] h = absurd (omega arith)
tail_short (b ∷ l) h = refl

tail_none : (l : List ℕ) → length l ≡ 0 → tail_line l ≡ []
unfolding tail_line
tail_none [] h = refl
tail_none (b ∷ l) h = absurd (omega arith)

module _ (l : List ℕ) (at : ℕ) (h : length l < at + 8) where
  pub file_end : at ≤ length l → mended_file (drop at l) ≡ []
  file_end k = file_tail (drop at l) (omega (arith, length-drop at l))

  pub text_short : at < length l → text (drop at l) ≡ short (length l - at)
  text_short k =
      text_tail (drop at l) (omega (arith, length-drop at l)) ∙
      tail_short (drop at l) (omega (arith, length-drop at l)) ∙ ap short (length-drop at l)

  pub text_end : at ≡ length l → text (drop at l) ≡ []
  text_end e = text_tail (drop at l) (omega (arith, length-drop at l)) ∙ tail_none (drop at l) (omega (arith, length-drop at l))

-- sixteen bytes a record and eight for the tail always suffice
tail_most : (l : List ℕ) → length l < 8 → length (tail_line l) ≤ 8
unfolding tail_line
tail_most [] h = omega arith
tail_most (b ∷ l) h = omega (arith, short_size (suc (length l)) (omega arith))

lines_most : (n : ℕ) (l : List ℕ) → length l < 8 * n + 8 → length (lines n l) ≤ 16 * n + 8
unfolding lines
lines_most zero l h = let b = tail_most l (omega arith) in omega arith
lines_most (suc n) l h =
    let rest = lines_most n (drop 8 l) (omega (arith, length-drop 8 l)) in
    rw length-append (omega (arith, line_most l))

pub text_most : (l : List ℕ) → length (text l) ≤ 16 * whole l + 8
unfolding text
text_most l = lines_most (whole l) l (omega arith)
