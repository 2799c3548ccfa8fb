-- THE ROUND TRIP: reading what was written gives the same block. Assumes nothing.
use mathlib.Core.Path.{◌≡◌, refl, sym, ap, subst, ◌∙◌}
use mathlib.Core.Bool.{Bool, true, false, cond, not, ◌&&◌}
use mathlib.Core.List.{List, [], ◌∷◌, ◌++◌, map}
use mathlib.Core.Option.{Option, some, none}
use Prim.Native.Nat.{ℕ, suc, ◌+◌, ◌*◌, ◌/◌, ◌%◌, ◌^◌, ◌<◌, ◌≤◌}
use native.Mathlib.Omega.{arith}
use lib.Dec.{T, eqb, leb, ltb, le→leb, lt→ltb, leb→le, ltb→lt}
use lib.IntN.{ℤ, pos, negsuc}
use lib.Ieee.{Float, nan, inf, fin, binary64, fits, up, down, whole, to_signed, in_signed, in_float}
use lib.Ieee.Back.{Float-back_signed}
use lib.Ieee.Fits.{and_i, and_l, and_r}
use lib.ListN.{length, get_or}
use borrow.Author.Tests.{eq-eqb, ne_eqb, leb-true, eqb-true}
use Rattle.common.proofs.Cases.{by_bool, inside_low}
use Rattle.exchange_format.specs.Lines.{newline, space, is_empty, all, onto, lines, past, same}
use Rattle.exchange_format.specs.Words.{banner, kind, small, is_first, is_digit, is_passed, Size, size, signed, entry}
use Rattle.text.specs.Text.{decimal}
use Rattle.exchange_format.specs.Reading.{Outcome, refuse, give, then, one_more, entries, size_line, opening, Block, count, float}
use Rattle.exchange_format.specs.Reading.{verdict, reading}
use Rattle.exchange_format.specs.Writing.{unlines, integer, file_lines, written, whole_of, wholes, fitting_text, writing}
use Rattle.exchange_format.specs.Promises.{Floats, Says, RoundTrip}
use Rattle.exchange_format.proofs.Entries.{minus_entry, plain_entry}
use Rattle.exchange_format.proofs.Numerals.{all_append, all_first, all_more, all_weaker, decimal_digits, decimal_some}
use Rattle.exchange_format.proofs.Numerals.{numeral_decimal, before_digits, from_digits, past_digits}

-- LINES

is_plain : ℕ → Bool
is_plain b = not (eqb b newline)

lines_line : (l s : List ℕ) → all is_plain l ≡ true → lines (l ++ (newline ∷ s)) ≡ l ∷ lines s
unfolding lines onto all is_plain
lines_line [] s p = refl
lines_line (x ∷ l) s p =
    by_bool (eqb x newline)
    (λ e. absurd (let z : false ≡ true = rw e at p in let y : ◌≡◌ {A = ℕ} 0 1 = cc in omega arith))
    (λ e. rw (e, lines_line l s (rw e at p)))

digit_plain : (x : ℕ) → is_digit x ≡ true → is_plain x ≡ true
unfolding is_plain
digit_plain x p = rw (ne_eqb x 10 (λ q. omega (arith, inside_low 48 57 x p)))

digits_plain : (n : ℕ) → all is_plain (decimal n) ≡ true
digits_plain n = all_weaker is_digit is_plain digit_plain (decimal n) (decimal_digits n)

integer_plain : (z : ℤ) → all is_plain (integer z) ≡ true
unfolding integer all is_plain
integer_plain (pos n) = digits_plain n
integer_plain (negsuc n) = digits_plain (suc n)

entry_lines : (xs : List ℤ) → lines (unlines (map integer xs)) ≡ map integer xs
unfolding unlines lines
entry_lines [] = refl
entry_lines (x ∷ xs) =
    lines_line (integer x) (unlines (map integer xs)) (integer_plain x) ∙ ap (λ (t : List (List ℕ)). integer x ∷ t) (entry_lines xs)

first_plain : all is_plain (banner ++ kind) ≡ true
unfolding all is_plain
first_plain = refl

space_plain : is_plain space ≡ true
unfolding is_plain
space_plain = refl

file_lines_lem : (b : Block) → lines (written b) ≡ file_lines b
unfolding written file_lines unlines
file_lines_lem b =
    let r = decimal b.sizes.rows in
    let c = decimal b.sizes.columns in
    let rest = unlines (map integer b.whole) in
    lines_line (banner ++ kind) ((r ++ (space ∷ c)) ++ (newline ∷ rest)) first_plain
    ∙ ap (λ (t : List (List ℕ)). (banner ++ kind) ∷ t)
    (lines_line (r ++ (space ∷ c)) rest (all_append is_plain r (space ∷ c) (digits_plain b.sizes.rows)
    (all_more is_plain space c space_plain (digits_plain b.sizes.columns)))
    ∙ ap (λ (t : List (List ℕ)). (r ++ (space ∷ c)) ∷ t) (entry_lines b.whole))

-- THE FIRST LINE AND THE SIZE LINE

first_line : is_first (banner ++ kind) ≡ true
unfolding is_first same small
first_line = refl

size_line_lem : (r c : ℕ) → r ≤ 1024 → c ≤ 1024 → size (decimal r ++ (space ∷ decimal c)) ≡ some (record { rows = r; columns = c })
unfolding size
size_line_lem r c h k =
    let no : is_digit space ≡ false = refl in
    rw (
      before_digits space no (decimal r) (decimal c) (decimal_digits r),
      from_digits space no (decimal r) (decimal c) (decimal_digits r),
      past_digits space no (decimal c) (decimal_digits c),
      numeral_decimal 1024 r h (omega arith),
      numeral_decimal 1024 c k (omega arith),
    )

pub not_passed : (l t : List ℕ) → is_empty l ≡ false → all is_digit l ≡ true → is_passed (l ++ t) ≡ false
unfolding is_passed past
not_passed [] t e p = absurd (let z : true ≡ false = e in let y : ◌≡◌ {A = ℕ} 0 1 = cc in omega arith)
not_passed (x ∷ l) t e p =
    let low = inside_low 48 57 x (all_first is_digit x l p) in
    rw (ne_eqb x 37 (λ q. omega arith), ne_eqb x 32 (λ q. omega arith))

-- ENTRIES

pub first_digit : (l : List ℕ) → is_empty l ≡ false → all is_digit l ≡ true → (length l ≡ 0 → ⊥) × (get_or l 0 0 ≡ 45 → ⊥)
first_digit [] e p = absurd (let z : true ≡ false = e in let y : ◌≡◌ {A = ℕ} 0 1 = cc in omega arith)
first_digit (x ∷ l) e p =
    let low = inside_low 48 57 x (all_first is_digit x l p) in
    (λ q. let z : suc (length l) ≡ 0 = q in omega arith, λ q. omega arith)

entry_back : (z : ℤ) → T (in_float binary64 z) → entry (integer z) ≡ some z
unfolding integer in_float
entry_back (pos n) t =
    let h : n ≤ 2 ^ 53 = leb→le n (2 ^ 53) t in
    let f = first_digit (decimal n) (decimal_some n) (decimal_digits n) in
    plain_entry (decimal n) f.0 f.1 ∙ ap (signed false) (numeral_decimal (2 ^ 53) n h (omega arith))
entry_back (negsuc n) t =
    let h : n < 2 ^ 53 = ltb→lt n (2 ^ 53) t in
    minus_entry (45 ∷ decimal (suc n)) (λ q. let z : suc (length (decimal (suc n))) ≡ 0 = q in omega arith) refl
    ∙ ap (signed true) (numeral_decimal (2 ^ 53) (suc n) (omega arith) (omega arith))

-- a float that is a whole number is that number's float
whole_signed : (x : Float) → T (whole binary64 x) → T (in_signed binary64 63 x)
unfolding in_signed whole
whole_signed nan t = t
whole_signed (inf s) t = t
whole_signed (fin s m g) t =
    let c = m * up g / down g in
    let b = eqb (m * up g % down g) 0 && leb c (2 ^ 53) in
    let h : c ≤ 2 ^ 53 = leb→le c (2 ^ 53) (and_r (eqb (m * up g % down g) 0) (leb c (2 ^ 53)) (and_l b (not (s && eqb m 0)) t)) in
    and_i (b && not (s && eqb m 0)) (cond s (leb c (2 ^ 63)) (ltb c (2 ^ 63))) t (go s c h)
  where
    go : (s : Bool) (c : ℕ) → c ≤ 2 ^ 53 → T (cond s (leb c (2 ^ 63)) (ltb c (2 ^ 63)))
    go true c h = le→leb c (2 ^ 63) (omega arith)
    go false c h = lt→ltb c (2 ^ 63) (omega arith)

whole_back : (x : Float) (z : ℤ) → T (fits binary64 x) → whole_of x ≡ some z → T (in_float binary64 z) × (float z ≡ x)
unfolding whole_of
whole_back x z f e = go (whole binary64 x) refl e
  where
    go : (b : Bool) → whole binary64 x ≡ b → ◌≡◌ {A = Option ℤ} (cond b (some (to_signed 63 x)) none) (some z) → T (in_float binary64 z) ×
        (float z ≡ x)
    go false p q = absurd (let y : ◌≡◌ {A = ℕ} 0 1 = cc in omega arith)
    go true p q =
        let s : to_signed 63 x ≡ z = cc in
        subst (λ (k : ℤ). T (in_float binary64 k) × (float k ≡ x)) s
        (Float-back_signed binary64 63 x f (whole_signed x (subst T (sym p) tt)))

record Back (k j : ℕ) (b : List Float) (xs : List ℤ) : Type 0 where
  lines : entries j (length b) (map integer xs) ≡ give xs
  floats : map float xs ≡ b

back : (k j : ℕ) (b : List Float) (xs : List ℤ) → Floats b → wholes k b ≡ give xs → Back k j b xs
unfolding wholes entries
back k j [] xs f e = let q : [] ≡ xs = cc in rw (← q) (record { lines = refl; floats = refl })
back k j (x ∷ b) xs f e = go (λ ys. back (k + 1) (j + 1) b ys (λ i. f (suc i))) (whole_of x) refl (wholes (k + 1) b) refl e
  where
    go : ((ys : List ℤ) → wholes (k + 1) b ≡ give ys → Back (k + 1) (j + 1) b ys) → (o : Option ℤ) → whole_of x ≡ o →
        (rest : Outcome (List ℤ)) → wholes (k + 1) b ≡ rest → one_more k o rest ≡ give xs → Back k j (x ∷ b) xs
    go later none p rest q w = absurd (let y : ◌≡◌ {A = ℕ} 0 1 = cc in omega arith)
    go later (some z) p (refuse m n) q w = absurd (let y : ◌≡◌ {A = ℕ} 0 1 = cc in omega arith)
    go later (some z) p (give ys) q w =
        let s : z ∷ ys ≡ xs = cc in
        let h = whole_back x z (f 0) p in
        let l = later ys q in
        rw (← s) (record {
          lines = rw (entry_back z h.0, l.lines);
          floats = rw (h.1, l.floats);
        })

-- THE THEOREM

-- what the text of a block of whole numbers says
pub verdict_written : (s : Size) (b : List Float) (xs : List ℤ) → Floats b → s.rows ≤ 1024 → s.columns ≤ 1024 → length b ≡ count s →
    wholes 3 b ≡ give xs →
    verdict (written (record { sizes = s; whole = xs })) ≡ give (record { sizes = s; whole = xs })
unfolding verdict opening size_line file_lines
verdict_written s b xs f h k l e =
    let r : entries 3 (count s) (map integer xs) ≡ give xs = ap (λ (n : ℕ). entries 3 n (map integer xs)) (sym l) ∙
    (back 3 3 b xs f e).lines in
    rw (
      file_lines_lem (record { sizes = s; whole = xs }),
      first_line,
      not_passed (decimal s.rows) (space ∷ decimal s.columns) (decimal_some s.rows) (decimal_digits s.rows),
      size_line_lem s.rows s.columns h k,
      r,
    )

pub round_trip : RoundTrip
unfolding writing reading
round_trip s b room text f e = go (leb s.rows 1024) refl (leb s.columns 1024) refl (eqb (length b) (count s)) refl (wholes 3 b) refl e
  where
    go : (p : Bool) → leb s.rows 1024 ≡ p → (q : Bool) → leb s.columns 1024 ≡ q → (t : Bool) → eqb (length b) (count s) ≡ t →
        (o : Outcome (List ℤ)) → wholes 3 b ≡ o →
        cond (p && q) (cond t (then o (λ xs. fitting_text room (written (record { sizes = s; whole = xs })))) (refuse 7 0))
        (refuse 14 2) ≡ give text →
        Says text s b
    go false hp q hq t ht o ho w = absurd (let y : ◌≡◌ {A = ℕ} 0 1 = cc in omega arith)
    go true hp false hq t ht o ho w = absurd (let y : ◌≡◌ {A = ℕ} 0 1 = cc in omega arith)
    go true hp true hq false ht o ho w = absurd (let y : ◌≡◌ {A = ℕ} 0 1 = cc in omega arith)
    go true hp true hq true ht (refuse n j) ho w = absurd (let y : ◌≡◌ {A = ℕ} 0 1 = cc in omega arith)
    go true hp true hq true ht (give xs) ho w = fit (leb (length (written (record { sizes = s; whole = xs }))) room) w
      where
        fit : (u : Bool) → cond u (give (written (record { sizes = s; whole = xs }))) (refuse 7 0) ≡ give text → Says text s b
        fit false v = absurd (let y : ◌≡◌ {A = ℕ} 0 1 = cc in omega arith)
        fit true v =
            let same : written (record { sizes = s; whole = xs }) ≡ text = cc in
            let l : length b ≡ count s = eqb-true (length b) (count s) ht in
            let said = verdict_written s b xs f (leb-true s.rows 1024 hp) (leb-true s.columns 1024 hq) l ho in
            record {
              whole = xs;
              read = rw (← same, said, eq-eqb (count s) (length b) (sym l));
              floats = (back 3 3 b xs f ho).floats;
            }
