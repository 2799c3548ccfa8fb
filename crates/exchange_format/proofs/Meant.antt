-- The verdict accepts just the texts that mean a block, with that block. Assumes nothing.
use mathlib.Core.Path.{◌≡◌, refl, sym, ap, ◌∙◌}
use mathlib.Core.Bool.{Bool, true, false, cond, not, ◌&&◌}
use mathlib.Core.List.{List, [], ◌∷◌, ◌++◌}
use mathlib.Core.Option.{Option, some, none}
use Prim.Native.Nat.{ℕ, zero, suc, ◌+◌, ◌^◌}
use native.Mathlib.Omega.{arith}
use lib.Dec.{leb, eqb}
use lib.IntN.{ℤ, pos, neg_ℤ}
use lib.ListN.{length}
use borrow.Author.Tests.{le-leb, leb-true, eqb-true}
use Rattle.common.proofs.Cases.{by_bool}
use Rattle.exchange_format.specs.Lines.{space, before, from, past, is_empty, all, lines}
use Rattle.exchange_format.specs.Words.{is_first, is_passed, is_digit, value, numeral, Size, pair, size, signed, entry}
use Rattle.exchange_format.specs.Reading.{Outcome, refuse, give, then, one_more, entries, Opened, opened, size_line, opening, Block}
use Rattle.exchange_format.specs.Reading.{count, filled_with, verdict}
use Rattle.exchange_format.specs.Meaning.{Numeral, is_space, SizeLine, EntryLine, EntryLine.plain, EntryLine.minus, EntryLines}
use Rattle.exchange_format.specs.Meaning.{EntryLines.no_line, EntryLines.one_line, PassedLines, PassedLines.no_passed}
use Rattle.exchange_format.specs.Meaning.{PassedLines.one_passed, Means}
use Rattle.exchange_format.proofs.Entries.{minus_entry, plain_entry}
use Rattle.exchange_format.proofs.Numerals.{all_first, all_rest, before_digits, from_digits, past_digits}
use Rattle.exchange_format.proofs.RoundTrip.{not_passed, first_digit}

-- NUMBERS

read_numeral : (most : ℕ) (l : List ℕ) (n : ℕ) → Numeral most l n → numeral most l ≡ some n
unfolding numeral
read_numeral most l n h = rw (h.some_digit, h.digits, h.worth, le-leb n most h.within)

is_numeral : (most : ℕ) (l : List ℕ) (n : ℕ) → numeral most l ≡ some n → Numeral most l n
unfolding numeral
is_numeral most l n e = go (is_empty l) refl (all is_digit l) refl (leb (value l) most) refl e
  where
    go : (a : Bool) → is_empty l ≡ a → (b : Bool) → all is_digit l ≡ b → (c : Bool) → leb (value l) most ≡ c →
        ◌≡◌ {A = Option ℕ} (cond (not a && (b && c)) (some (value l)) none) (some n) → Numeral most l n
    go true p b q c r w = absurd (let y : ◌≡◌ {A = ℕ} 0 1 = cc in omega arith)
    go false p false q c r w = absurd (let y : ◌≡◌ {A = ℕ} 0 1 = cc in omega arith)
    go false p true q false r w = absurd (let y : ◌≡◌ {A = ℕ} 0 1 = cc in omega arith)
    go false p true q true r w =
        let v : value l ≡ n = cc in
        record { some_digit = p; digits = q; worth = v; within = omega (arith, leb-true (value l) most r) }

-- THE SIZE LINE

past_spaces : (s l : List ℕ) → all is_space s ≡ true → past space (s ++ l) ≡ past space l
unfolding past
past_spaces [] l p = refl
past_spaces (x ∷ s) l p = rw (all_first is_space x s p) (past_spaces s l (all_rest is_space x s p))

pub read_size : (l : List ℕ) (s : Size) → SizeLine l s → size l ≡ some s
unfolding size past
read_size l s h =
    let no : is_digit space ≡ false = refl in
    let rest : past space (h.spaces ++ h.second) ≡ h.second = past_spaces h.spaces h.second h.blank ∙ past_digits space no
    h.second h.columns.digits in
    rw (
      h.parts,
      before_digits space no h.first (h.spaces ++ h.second) h.rows.digits,
      from_digits space no h.first (h.spaces ++ h.second) h.rows.digits,
      rest,
      read_numeral 1024 h.first s.rows h.rows,
      read_numeral 1024 h.second s.columns h.columns,
    )

-- a list is what stands before a byte and what stands from it on; what stands from it on begins with it
split : (b : ℕ) (l : List ℕ) → l ≡ before b l ++ from b l
unfolding before from
split b [] = refl
split b (x ∷ l) = by_bool (eqb x b) (λ e. rw e) (λ e. rw e (ap (λ (t : List ℕ). x ∷ t) (split b l)))

record Starts (b : ℕ) (l : List ℕ) : Type 0 where
  tail : List ℕ
  is : l ≡ b ∷ tail

starts : (b : ℕ) (l : List ℕ) → is_empty (from b l) ≡ false → Starts b (from b l)
unfolding from
starts b [] e = absurd (let z : true ≡ false = e in let y : ◌≡◌ {A = ℕ} 0 1 = cc in omega arith)
starts b (x ∷ l) e =
    by_bool (eqb x b)
    (λ t. rw t (record { tail = l; is = ap (λ (y : ℕ). y ∷ l) (eqb-true x b t) }))
    (λ t. rw t (starts b l (rw t at e)))

record Led (l p : List ℕ) : Type 0 where
  spaces : List ℕ
  blank : all is_space spaces ≡ true
  is : l ≡ spaces ++ p

led : (l : List ℕ) → Led l (past space l)
unfolding past all
led [] = record { spaces = []; blank = refl; is = refl }
led (x ∷ l) =
    by_bool (eqb x space)
    (λ e. let h = led l in rw e (record { spaces = x ∷ h.spaces; blank = rw (e, h.blank); is = ap (λ (t : List ℕ). x ∷ t) h.is }))
    (λ e. rw e (record { spaces = []; blank = refl; is = refl }))

not_empty : (l : List ℕ) → is_empty (past space l) ≡ false → is_empty l ≡ false
unfolding past
not_empty [] e = e
not_empty (x ∷ l) e = refl

pub is_size : (l : List ℕ) (s : Size) → size l ≡ some s → SizeLine l s
unfolding size past
is_size l s e = go (numeral 1024 (before space l)) refl (numeral 1024 (past space (from space l))) refl e
  where
    go : (a : Option ℕ) → numeral 1024 (before space l) ≡ a → (b : Option ℕ) → numeral 1024 (past space (from space l)) ≡ b →
        pair a b ≡ some s → SizeLine l s
    go none p b q w = absurd (let y : ◌≡◌ {A = ℕ} 0 1 = cc in omega arith)
    go (some m) p none q w = absurd (let y : ◌≡◌ {A = ℕ} 0 1 = cc in omega arith)
    go (some m) p (some n) q w =
        let same : record { rows = m; columns = n } ≡ s = cc in
        let one = is_numeral 1024 (before space l) m p in
        let two = is_numeral 1024 (past space (from space l)) n q in
        let t = starts space l (not_empty (from space l) two.some_digit) in
        let d = led t.tail in
        let gone : past space (from space l) ≡ past space t.tail = ap (past space) t.is in
        rw (← same) (record {
          first = before space l;
          spaces = d.spaces;
          second = past space t.tail;
          parts = split space l ∙ ap (λ (u : List ℕ). before space l ++ u) (t.is ∙ ap (λ (u : List ℕ). space ∷ u) d.is);
          blank = d.blank;
          rows = one;
          columns = rw gone at two;
        })

-- ENTRIES

pub read_entry : {l : List ℕ} {z : ℤ} → EntryLine l z → entry l ≡ some z
read_entry (plain {l} {n} h) =
    let f = first_digit l h.some_digit h.digits in
    plain_entry l f.0 f.1 ∙ ap (signed false) (read_numeral (2 ^ 53) l n h)
read_entry (minus {l} {n} h) =
    minus_entry (45 ∷ l) (λ q. let y : suc (length l) ≡ 0 = q in omega arith) refl ∙ ap (signed true) (read_numeral (2 ^ 53) l n h)

pub is_entry : (l : List ℕ) (z : ℤ) → entry l ≡ some z → EntryLine l z
unfolding entry
is_entry [] z e = absurd (let y : ◌≡◌ {A = ℕ} 0 1 = cc in omega arith)
is_entry (b ∷ l) z e =
    by_bool (eqb b 45)
    (λ t. yes (numeral (2 ^ 53) l) refl (eqb-true b 45 t) (rw t at e))
    (λ t. other (numeral (2 ^ 53) (b ∷ l)) refl (rw t at e))
  where
    yes : (o : Option ℕ) → numeral (2 ^ 53) l ≡ o → b ≡ 45 → signed true o ≡ some z → EntryLine (b ∷ l) z
    yes none p q w = absurd (let y : ◌≡◌ {A = ℕ} 0 1 = cc in omega arith)
    yes (some n) p q w = let s : neg_ℤ (pos n) ≡ z = cc in rw (← s, q) (minus (is_numeral (2 ^ 53) l n p))

    other : (o : Option ℕ) → numeral (2 ^ 53) (b ∷ l) ≡ o → signed false o ≡ some z → EntryLine (b ∷ l) z
    other none p w = absurd (let y : ◌≡◌ {A = ℕ} 0 1 = cc in omega arith)
    other (some n) p w = let s : pos n ≡ z = cc in rw (← s) (plain (is_numeral (2 ^ 53) (b ∷ l) n p))

read_entries : (k : ℕ) {ls : List (List ℕ)} {zs : List ℤ} → EntryLines ls zs → entries k (length zs) ls ≡ give zs
unfolding entries
read_entries k no_line = refl
read_entries k (one_line h hs) = rw (read_entry h, read_entries (k + 1) hs)

record Entered (n : ℕ) (ls : List (List ℕ)) (zs : List ℤ) : Type 0 where
  lines : EntryLines ls zs
  count : length zs ≡ n

are_entries_lem : (k n : ℕ) (ls : List (List ℕ)) (zs : List ℤ) → entries k n ls ≡ give zs → Entered n ls zs
unfolding entries
are_entries_lem k zero [] zs e = let q : [] ≡ zs = cc in rw (← q) (record { lines = no_line; count = refl })
are_entries_lem k zero (l ∷ ls) zs e = absurd (let y : ◌≡◌ {A = ℕ} 0 1 = cc in omega arith)
are_entries_lem k (suc n) [] zs e = absurd (let y : ◌≡◌ {A = ℕ} 0 1 = cc in omega arith)
are_entries_lem k (suc n) (l ∷ ls) zs e = go (λ ys. are_entries_lem (k + 1) n ls ys) (entry l) refl (entries (k + 1) n ls) refl e
  where
    go : ((ys : List ℤ) → entries (k + 1) n ls ≡ give ys → Entered n ls ys) → (o : Option ℤ) → entry l ≡ o →
        (rest : Outcome (List ℤ)) → entries (k + 1) n ls ≡ rest → one_more k o rest ≡ give zs → Entered (suc n) (l ∷ ls) zs
    go later none p rest q w = absurd (let y : ◌≡◌ {A = ℕ} 0 1 = cc in omega arith)
    go later (some z) p (refuse m j) q w = absurd (let y : ◌≡◌ {A = ℕ} 0 1 = cc in omega arith)
    go later (some z) p (give ys) q w =
        let s : z ∷ ys ≡ zs = cc in
        let h = later ys q in
        rw (← s) (record { lines = one_line (is_entry l z p) h.lines; count = ap suc h.count })

-- THE SIZE LINE AMONG THE LINES

pub size_unpassed : (l : List ℕ) (s : Size) → SizeLine l s → is_passed l ≡ false
size_unpassed l s h = rw h.parts (not_passed h.first (space ∷ (h.spaces ++ h.second)) h.rows.some_digit h.rows.digits)

-- the lines after the size line are numbered from some number on
record Sees (k : ℕ) (ls : List (List ℕ)) (s : Size) (rest : List (List ℕ)) : Type 0 where
  next : ℕ
  is : size_line k ls ≡ give (record { sizes = s; next = next; rest = rest })

sees : (k : ℕ) {passed : List (List ℕ)} (l : List ℕ) (rest : List (List ℕ)) (s : Size) → PassedLines passed → SizeLine l s → Sees k
    (passed ++ (l ∷ rest)) s rest
unfolding size_line
sees k l rest s no_passed h = record { next = k + 1; is = rw (size_unpassed l s h, read_size l s h) }
sees k l rest s (one_passed p ps) h = let w = sees (k + 1) l rest s ps h in record { next = w.next; is = rw p w.is }

record Seen (ls : List (List ℕ)) (o : Opened) : Type 0 where
  passed : List (List ℕ)
  line : List ℕ
  are : ls ≡ passed ++ (line ∷ o.rest)
  over : PassedLines passed
  sized : SizeLine line o.sizes

seen : (k : ℕ) (ls : List (List ℕ)) (o : Opened) → size_line k ls ≡ give o → Seen ls o
unfolding size_line
seen k [] o e = absurd (let y : ◌≡◌ {A = ℕ} 0 1 = cc in omega arith)
seen k (l ∷ ls) o e = go (λ f. seen (k + 1) ls o f) (is_passed l) refl e
  where
    here : (q : Option Size) → size l ≡ q → opened k q ls ≡ give o → Seen (l ∷ ls) o
    here none p w = absurd (let y : ◌≡◌ {A = ℕ} 0 1 = cc in omega arith)
    here (some s) p w =
        let same : record { sizes = s; next = k + 1; rest = ls } ≡ o = cc in
        rw (← same) (record { passed = []; line = l; are = refl; over = no_passed; sized = is_size l s p })

    go : (size_line (k + 1) ls ≡ give o → Seen ls o) → (b : Bool) → is_passed l ≡ b → cond b (size_line (k + 1) ls)
        (opened k (size l) ls) ≡ give o → Seen (l ∷ ls) o
    go later true p w =
        let h = later w in
        record {
          passed = l ∷ h.passed;
          line = h.line;
          are = ap (λ (t : List (List ℕ)). l ∷ t) h.are;
          over = one_passed p h.over;
          sized = h.sized;
        }
    go later false p w = here (size l) refl w

-- THE THEOREM

pub accepted : (text : List ℕ) (b : Block) → Means text b → verdict text ≡ give b
unfolding verdict opening
accepted text b h =
    let w = sees 2 h.line h.rest b.sizes h.over h.sized in
    let r : entries w.next (count b.sizes) h.rest ≡ give b.whole =
    ap (λ (n : ℕ). entries w.next n h.rest) (sym h.counted) ∙ read_entries w.next h.entered in
    rw (h.are, h.opens, w.is, r)

pub meaning : (text : List ℕ) (b : Block) → verdict text ≡ give b → Means text b
unfolding verdict opening
meaning text b e = go (lines text) refl e
  where
    go : (ls : List (List ℕ)) → lines text ≡ ls → then (opening ls) filled_with ≡ give b → Means text b
    go [] p w = absurd (let y : ◌≡◌ {A = ℕ} 0 1 = cc in omega arith)
    go (l ∷ ls) p w = first (is_first l) refl w
      where
        whole : (o : Opened) → size_line 2 ls ≡ give o → is_first l ≡ true → (xs : Outcome (List ℤ)) → entries o.next (count o.sizes)
            o.rest ≡ xs →
            then xs (λ ys. give (record { sizes = o.sizes; whole = ys })) ≡ give b → Means text b
        whole o q f (refuse m j) r v = absurd (let y : ◌≡◌ {A = ℕ} 0 1 = cc in omega arith)
        whole o q f (give ys) r v =
            let same : record { sizes = o.sizes; whole = ys } ≡ b = cc in
            let h = seen 2 ls o q in
            let n = are_entries_lem o.next (count o.sizes) o.rest ys r in
            rw (← same) (record {
              first = l;
              passed = h.passed;
              line = h.line;
              rest = o.rest;
              are = p ∙ ap (λ (t : List (List ℕ)). l ∷ t) h.are;
              opens = f;
              over = h.over;
              sized = h.sized;
              entered = n.lines;
              counted = n.count;
            })

        sized : (o : Outcome Opened) → size_line 2 ls ≡ o → is_first l ≡ true → then o filled_with ≡ give b → Means text b
        sized (refuse m j) q f v = absurd (let y : ◌≡◌ {A = ℕ} 0 1 = cc in omega arith)
        sized (give o) q f v = whole o q f (entries o.next (count o.sizes) o.rest) refl v

        first : (t : Bool) → is_first l ≡ t → then (cond t (size_line 2 ls) (refuse 13 1)) filled_with ≡ give b → Means text b
        first false f v = absurd (let y : ◌≡◌ {A = ℕ} 0 1 = cc in omega arith)
        first true f v = sized (size_line 2 ls) refl f v
