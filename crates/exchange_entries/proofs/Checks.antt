-- The entries, line after line: what the line at a place says of those that are left, and the values that fill a block. Assumes nothing.
use mathlib.Core.Path.{◌≡◌, refl, sym, ap, ◌∙◌}
use mathlib.Core.Bool.{true, false}
use mathlib.Core.List.{List, [], ◌∷◌, map}
use mathlib.Core.Option.{Option, some, none}
use Prim.Native.Nat.{ℕ, zero, suc, ◌+◌, ◌-◌, ◌<◌, ◌≤◌}
use native.Mathlib.Nat.{not-suc-le-zero, add-zero}
use native.Mathlib.Omega.{arith}
use lib.IntN.{ℤ}
use lib.Ieee.{Float}
use lib.ListN.{length, get_or, drop}
use lib.Seq.{drop-drop, get_or-drop}
use Rattle.common.specs.Lists.{tabulate}
use Rattle.common.specs.Refusals.{wrong_count, bad_entry}
use Rattle.exchange_format.specs.Lines.{lines}
use Rattle.exchange_format.specs.Words.{entry}
use Rattle.exchange_format.specs.Reading.{Outcome, refuse, give, then, one_more, entries, float}
use Rattle.exchange_entries.specs.Working.{line_at, is_fit, Past, value_at, checked}
use Rattle.common.proofs.Cases.{by_lt}
use Rattle.exchange_entries.proofs.Scans.{line_end}
use Rattle.exchange_lines.proofs.Scanning.{lines_none, lines_some, lines_first, lines_rest}

-- THE LINE AT A PLACE is the first of the lines, and the others are those that go on from the next place

module _ (text : List ℕ) (at : ℕ) where
  pub line_first : get_or (lines (drop at text)) 0 [] ≡ line_at text at
  line_first = lines_first (drop at text)

  pub line_rest : (next : ℕ) → Past text at next → lines (drop next text) ≡ drop 1 (lines (drop at text))
  line_rest next p = ap lines p.rest ∙ sym (lines_rest (drop at text))

  some_lines : (next : ℕ) → at < length text → Past text at next → lines (drop at text) ≡ line_at text at ∷ lines (drop next text)
  some_lines next h p = rw (← line_first, line_rest next p) (lines_some text at h)

-- THE CHECK

checked_more : (x : ℤ) (o : Outcome (List ℤ)) → checked (then o (λ xs. give (x ∷ xs))) ≡ checked o
checked_more x (refuse n k) = refl
checked_more x (give xs) = refl

module _ (k : ℕ) (text : List ℕ) (at : ℕ) where
  pub entry_missing : (left : ℕ) → 0 < left → length text ≤ at → refuse wrong_count k ≡ checked (entries k left (lines (drop at text)))
  unfolding entries
  entry_missing zero l h = absurd (not-suc-le-zero l)
  entry_missing (suc n) l h = rw (lines_none text at h)

  pub entries_over : (left : ℕ) → left ≤ 0 → at < length text → refuse wrong_count k ≡ checked (entries k left (lines (drop at text)))
  unfolding entries
  entries_over zero l h = rw (lines_some text at h)
  entries_over (suc n) l h = absurd (not-suc-le-zero l)

  pub entries_done : (left : ℕ) → left ≤ 0 → length text ≤ at → give tt ≡ checked (entries k left (lines (drop at text)))
  unfolding entries
  entries_done zero l h = rw (lines_none text at h)
  entries_done (suc n) l h = absurd (not-suc-le-zero l)

  module _ (h : at < length text) where
    pub entry_bad : (left : ℕ) → 0 < left → entry (line_at text at) ≡ none → refuse bad_entry k ≡ checked
        (entries k left (lines (drop at text)))
    unfolding entries
    entry_bad zero l e = absurd (not-suc-le-zero l)
    entry_bad (suc n) l e = rw (lines_some text at h, line_first text at, e)

    pub entry_good : (next left : ℕ) → 0 < left → is_fit (entry (line_at text at)) ≡ true → Past text at next →
        checked (entries (k + 1) (left - 1) (lines (drop next text))) ≡ checked (entries k left (lines (drop at text)))
    unfolding entries
    entry_good next zero l f p = absurd (not-suc-le-zero l)
    entry_good next (suc n) l f p =
        let one : suc n - 1 ≡ n = omega arith in
        rw (some_lines text at next h p, one) (go (entry (line_at text at)) f)
      where
        go : (o : Option ℤ) → is_fit o ≡ true →
            checked (entries (k + 1) n (lines (drop next text))) ≡ checked (one_more k o (entries (k + 1) n (lines (drop next text))))
        go none q = absurd (let z : false ≡ true = q in let y : ◌≡◌ {A = ℕ} 0 1 = cc in omega arith)
        go (some x) q = sym (checked_more x (entries (k + 1) n (lines (drop next text))))

-- THE VALUES

module _ (text : List ℕ) (start at i : ℕ) (e : lines (drop at text) ≡ drop i (lines (drop start text))) where
  pub line_here : line_at text at ≡ get_or (lines (drop start text)) i []
  line_here =
      sym (line_first text at) ∙ ap (λ (ls : List (List ℕ)). get_or ls 0 []) e ∙ get_or-drop i (lines (drop start text)) 0 [] ∙
      ap (λ (j : ℕ). get_or (lines (drop start text)) j []) (add-zero i)

  pub line_next : (next : ℕ) → Past text at next → lines (drop next text) ≡ drop (i + 1) (lines (drop start text))
  line_next next p = line_rest text at next p ∙ ap (drop 1) e ∙ drop-drop 1 i (lines (drop start text))

-- a line that is an entry has a byte
pub fit_inside : (text : List ℕ) (at : ℕ) → is_fit (entry (line_at text at)) ≡ true → at < length text
unfolding entry
fit_inside text at f =
    by_lt at (length text) (λ l _. l)
    (λ l _. absurd (let none_here : false ≡ true = rw (line_end text at l) at f in let y : ◌≡◌ {A = ℕ} 0 1 = cc in omega arith))

-- entries that are all fit: each line is one, and they are the values of their lines
pub record Valid (n : ℕ) (ls : List (List ℕ)) (xs : List ℤ) : Type 0 where
  pub fit : (j : ℕ) → j < n → is_fit (entry (get_or ls j [])) ≡ true
  pub values : map float xs ≡ tabulate n (value_at ls)

pub valid : (k n : ℕ) (ls : List (List ℕ)) (xs : List ℤ) → entries k n ls ≡ give xs → Valid n ls xs
unfolding entries
valid k zero [] xs e = let q : [] ≡ xs = cc in rw (← q) (record { fit = λ j l. absurd (not-suc-le-zero l); values = refl })
valid k zero (l ∷ ls) xs e = absurd (let z : ◌≡◌ {A = ℕ} 0 1 = cc in omega arith)
valid k (suc n) [] xs e = absurd (let z : ◌≡◌ {A = ℕ} 0 1 = cc in omega arith)
valid k (suc n) (l ∷ ls) xs e = go (λ ys. valid (k + 1) n ls ys) (entry l) refl (entries (k + 1) n ls) refl e
  where
    fits : (x : ℤ) (ys : List ℤ) → entry l ≡ some x → Valid n ls ys → (j : ℕ) → j < suc n → is_fit (entry (get_or (l ∷ ls) j [])) ≡ true
    fits x ys p h zero b = ap is_fit p
    fits x ys p h (suc j) b = h.fit j (omega arith)

    go : ((ys : List ℤ) → entries (k + 1) n ls ≡ give ys → Valid n ls ys) → (o : Option ℤ) → entry l ≡ o → (rest : Outcome (List ℤ)) →
        entries (k + 1) n ls ≡ rest → one_more k o rest ≡ give xs → Valid (suc n) (l ∷ ls) xs
    go later none p rest q w = absurd (let z : ◌≡◌ {A = ℕ} 0 1 = cc in omega arith)
    go later (some x) p (refuse m j) q w = absurd (let z : ◌≡◌ {A = ℕ} 0 1 = cc in omega arith)
    go later (some x) p (give ys) q w =
        let h = later ys q in
        let s : x ∷ ys ≡ xs = cc in
        record { fit = fits x ys p h; values = rw (← s, p) (ap (λ (t : List Float). float x ∷ t) h.values) }
