-- The verdict refuses with a number and a line just where the text has that fault. Assumes nothing.
use mathlib.Core.Path.{◌≡◌, refl, sym, ap, subst, ◌∙◌}
use mathlib.Core.Bool.{Bool, true, false, cond}
use mathlib.Core.List.{List, [], ◌∷◌, ◌++◌, append-nil}
use mathlib.Core.Option.{Option, some, none}
use Prim.Native.Nat.{ℕ, zero, suc, ◌+◌, ◌-◌, ◌<◌}
use native.Mathlib.Omega.{arith}
use lib.IntN.{ℤ}
use lib.ListN.{length}
use Rattle.exchange_format.specs.Lines.{lines}
use Rattle.exchange_format.specs.Words.{is_first, is_passed, Size, size, entry}
use Rattle.exchange_format.specs.Reading.{Outcome, refuse, give, then, one_more, entries, opened, size_line, opening, Block, count}
use Rattle.exchange_format.specs.Reading.{filled_with, verdict}
use Rattle.exchange_format.specs.Meaning.{SizeLine, EntryLine, EntryLines, EntryLines.no_line, EntryLines.one_line, PassedLines}
use Rattle.exchange_format.specs.Meaning.{PassedLines.no_passed, PassedLines.one_passed, EntryFault, EntryFault.bad_entry_line}
use Rattle.exchange_format.specs.Meaning.{EntryFault.too_few, EntryFault.too_many, SizeFault, SizeFault.no_size_line, SizeFault.bad_size}
use Rattle.exchange_format.specs.Meaning.{SizeFault.after_size, Fault, Fault.no_text, Fault.no_first, Fault.after_first}
use Rattle.exchange_format.proofs.Meant.{read_size, is_size, read_entry, is_entry, size_unpassed}

-- FROM A REFUSAL TO THE FAULT

-- one right line more at the front
shift : {k n m j : ℕ} {ls : List (List ℕ)} (l : List ℕ) (z : ℤ) → EntryLine l z → EntryFault (k + 1) n ls m j → EntryFault k (suc n)
    (l ∷ ls) m j
shift l z h (bad_entry_line {good} {zs} {j} x rest e g b d p) = bad_entry_line {j = j} x rest (ap (λ (t : List (List ℕ)). l ∷ t) e) (one_line h g)
    (omega arith) d (omega arith)
shift l z h (too_few {zs} {j} g b p) = too_few {j = j} (one_line h g) (omega arith) (omega arith)
shift l z h (too_many {good} {zs} {j} x rest e g b p) = too_many {j = j} x rest (ap (λ (t : List (List ℕ)). l ∷ t) e) (one_line h g)
    (ap suc b) (omega arith)

entry_fault : (k n : ℕ) (ls : List (List ℕ)) (m j : ℕ) → entries k n ls ≡ refuse m j → EntryFault k n ls m j
unfolding entries
entry_fault k zero [] m j e = absurd (let y : ◌≡◌ {A = ℕ} 0 1 = cc in omega arith)
entry_fault k zero (l ∷ ls) m j e =
    let a : 16 ≡ m = cc in
    let b : k ≡ j = cc in
    rw (← a, ← b) (too_many {j = k} l ls refl no_line refl (omega arith))
entry_fault k (suc n) [] m j e =
    let a : 16 ≡ m = cc in
    let b : k ≡ j = cc in
    rw (← a, ← b) (too_few {j = k} no_line (omega arith) (omega arith))
entry_fault k (suc n) (l ∷ ls) m j e = go (λ f. entry_fault (k + 1) n ls m j f) (entry l) refl (entries (k + 1) n ls) refl e
  where
    go : (entries (k + 1) n ls ≡ refuse m j → EntryFault (k + 1) n ls m j) → (o : Option ℤ) → entry l ≡ o → (rest : Outcome (List ℤ)) →
        entries (k + 1) n ls ≡ rest → one_more k o rest ≡ refuse m j → EntryFault k (suc n) (l ∷ ls) m j
    go later none p rest q w =
        let a : 15 ≡ m = cc in
        let b : k ≡ j = cc in
        rw (← a, ← b)
        (bad_entry_line {j = k} l ls refl no_line (omega arith)
        (λ z h. let s : none ≡ some z = sym p ∙ read_entry h in let y : ◌≡◌ {A = ℕ} 0 1 = cc in omega arith) (omega arith))
    go later (some z) p (refuse a b) q w = shift l z (is_entry l z p) (later (q ∙ w))
    go later (some z) p (give ys) q w = absurd (let y : ◌≡◌ {A = ℕ} 0 1 = cc in omega arith)

push : {k m j : ℕ} {ls : List (List ℕ)} (l : List ℕ) → is_passed l ≡ true → SizeFault (k + 1) ls m j → SizeFault k (l ∷ ls) m j
push y t (no_size_line {j} p e) = no_size_line {j = j} (one_passed t p) (omega arith)
push y t (bad_size {passed} {j} x rest e p n d q) = bad_size {j = j} x rest (ap (λ (u : List (List ℕ)). y ∷ u) e) (one_passed t p) n d
    (omega arith)
push {k} y t (after_size {passed} {l} {s} {m} {j} rest e p h f) =
    let same : k + 1 + length passed + 1 ≡ k + suc (length passed) + 1 = omega arith in
    after_size rest (ap (λ (u : List (List ℕ)). y ∷ u) e) (one_passed t p) h (subst (λ (i : ℕ). EntryFault i (count s) rest m j) same f)

size_fault : (k : ℕ) (ls : List (List ℕ)) (m j : ℕ) → then (size_line k ls) filled_with ≡ refuse m j → SizeFault k ls m j
unfolding size_line
size_fault k [] m j e =
    let a : 14 ≡ m = cc in
    let b : k ≡ j = cc in
    rw (← a, ← b) (no_size_line {j = k} no_passed (omega arith))
size_fault k (l ∷ ls) m j e = go (λ f. size_fault (k + 1) ls m j f) (is_passed l) refl e
  where
    entered : (s : Size) → size l ≡ some s → (o : Outcome (List ℤ)) → entries (k + 1) (count s) ls ≡ o →
        then {B = Block} o (λ xs. give (record { sizes = s; whole = xs })) ≡ refuse m j → SizeFault k (l ∷ ls) m j
    entered s p (refuse a b) q w =
        let same : k + 1 ≡ k + 0 + 1 = omega arith in
        let a' : a ≡ m = cc in
        let b' : b ≡ j = cc in
        after_size ls refl no_passed (is_size l s p)
        (subst (λ (i : ℕ). EntryFault i (count s) ls m j) same (entry_fault (k + 1) (count s) ls m j (q ∙ rw (a', b'))))
    entered s p (give xs) q w = absurd (let y : ◌≡◌ {A = ℕ} 0 1 = cc in omega arith)

    here : is_passed l ≡ false → (q : Option Size) → size l ≡ q → then (opened k q ls) filled_with ≡ refuse m j → SizeFault k (l ∷ ls) m j
    here t none p w =
        let a : 14 ≡ m = cc in
        let b : k ≡ j = cc in
        rw (← a, ← b)
        (bad_size {j = k} l ls refl no_passed t
        (λ s h. let z : none ≡ some s = sym p ∙ read_size l s h in let y : ◌≡◌ {A = ℕ} 0 1 = cc in omega arith) (omega arith))
    here t (some s) p w = entered s p (entries (k + 1) (count s) ls) refl w

    go : (then (size_line (k + 1) ls) filled_with ≡ refuse m j → SizeFault (k + 1) ls m j) → (b : Bool) → is_passed l ≡ b →
        then (cond b (size_line (k + 1) ls) (opened k (size l) ls)) filled_with ≡ refuse m j → SizeFault k (l ∷ ls) m j
    go later true t w = push l t (later w)
    go later false t w = here t (size l) refl w

pub fault : (text : List ℕ) (m j : ℕ) → verdict text ≡ refuse m j → Fault text m j
unfolding verdict opening
fault text m j e = go (lines text) refl e
  where
    first : (l : List ℕ) (ls : List (List ℕ)) → lines text ≡ l ∷ ls → (b : Bool) → is_first l ≡ b →
        then (cond b (size_line 2 ls) (refuse 13 1)) filled_with ≡ refuse m j → Fault text m j
    first l ls p true t w = after_first p t (size_fault 2 ls m j w)
    first l ls p false t w =
        let a : 13 ≡ m = cc in
        let b : 1 ≡ j = cc in
        rw (← a, ← b) (no_first p t)

    go : (ls : List (List ℕ)) → lines text ≡ ls → then (opening ls) filled_with ≡ refuse m j → Fault text m j
    go [] p w =
        let a : 13 ≡ m = cc in
        let b : 1 ≡ j = cc in
        rw (← a, ← b) (no_text p)
    go (l ∷ ls) p w = first l ls p (is_first l) refl w

-- FROM THE FAULT TO THE REFUSAL

past_good : (k n : ℕ) {good : List (List ℕ)} {zs : List ℤ} (rest : List (List ℕ)) (m j : ℕ) → EntryLines good zs →
    entries (k + length zs) n rest ≡ refuse m j → entries k (length zs + n) (good ++ rest) ≡ refuse m j
unfolding entries
past_good k n rest m j no_line e =
    let a : k + 0 ≡ k = omega arith in
    let b : 0 + n ≡ n = omega arith in
    rw b (rw a at e)
past_good k n rest m j (one_line {l} {z} {ls} {zs} h hs) e =
    let a : k + suc (length zs) ≡ k + 1 + length zs = omega arith in
    let b : suc (length zs) + n ≡ suc (length zs + n) = omega arith in
    rw (b, read_entry h, past_good (k + 1) n rest m j hs (rw a at e))

no_entry : (l : List ℕ) → ((z : ℤ) → EntryLine l z → ⊥) → entry l ≡ none
no_entry l d = go (entry l) refl
  where
    go : (o : Option ℤ) → entry l ≡ o → o ≡ none
    go none p = refl
    go (some z) p = absurd (d z (is_entry l z p))

no_size_in : (l : List ℕ) → ((s : Size) → SizeLine l s → ⊥) → size l ≡ none
no_size_in l d = go (size l) refl
  where
    go : (o : Option Size) → size l ≡ o → o ≡ none
    go none p = refl
    go (some s) p = absurd (d s (is_size l s p))

-- n is a number and what is left to it
left : (a n : ℕ) → a < n → (r : ℕ) × (n ≡ a + suc r)
left a n h = (n - suc a, omega arith)

refused_entry : (k n : ℕ) (ls : List (List ℕ)) (m j : ℕ) → EntryFault k n ls m j → entries k n ls ≡ refuse m j
unfolding entries
refused_entry k n ls m j (bad_entry_line {good} {zs} l rest e g b d p) =
    let r = left (length zs) n b in
    rw (e, r.1, p) (past_good k (suc r.0) (l ∷ rest) 15 (k + length zs) g (rw (no_entry l d)))
refused_entry k n ls m j (too_few {zs} g b p) =
    let r = left (length zs) n b in
    rw (r.1, p) (rw append-nil at (past_good k (suc r.0) [] 16 (k + length zs) g refl))
refused_entry k n ls m j (too_many {good} {zs} l rest e g b p) =
    let z : n ≡ length zs + 0 = omega arith in
    rw (e, z, p) (past_good k 0 (l ∷ rest) 16 (k + length zs) g refl)

past_passed : (k : ℕ) {passed : List (List ℕ)} (rest : List (List ℕ)) → PassedLines passed → size_line k (passed ++ rest) ≡ size_line
    (k + length passed) rest
unfolding size_line
past_passed k rest no_passed = let a : k + 0 ≡ k = omega arith in rw a
past_passed k rest (one_passed {l} {ls} t p) = let a : k + suc (length ls) ≡ k + 1 + length ls = omega arith in rw (t, a)
    (past_passed (k + 1) rest p)

refused_size : (k : ℕ) (ls : List (List ℕ)) (m j : ℕ) → SizeFault k ls m j → then (size_line k ls) filled_with ≡ refuse m j
unfolding size_line
refused_size k ls m j (no_size_line p e) =
    let w : size_line k ls ≡ size_line (k + length ls) [] = rw append-nil at (past_passed k [] p) in
    rw (w, e)
refused_size k ls m j (bad_size {passed} l rest e p n d q) = rw (e, past_passed k (l ∷ rest) p, n, no_size_in l d, q)
refused_size k ls m j (after_size {passed} {l} {s} rest e p h f) =
    rw (e, past_passed k (l ∷ rest) p, size_unpassed l s h, read_size l s h, refused_entry (k + length passed + 1) (count s) rest m j f)

pub refused : (text : List ℕ) (m j : ℕ) → Fault text m j → verdict text ≡ refuse m j
unfolding verdict opening
refused text m j (no_text p) = rw p
refused text m j (no_first p t) = rw (p, t)
refused text m j (after_first {l} {ls} p t f) = rw (p, t) (refused_size 2 ls m j f)
