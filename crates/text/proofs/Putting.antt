-- Words put into a line: one after another, what fits, and how long the line stays. Assumes nothing.
use mathlib.Core.Path.{◌≡◌, refl, sym, ap, ◌∙◌}
use mathlib.Core.List.{List, [], ◌∷◌, ◌++◌, append_assoc}
use Prim.Native.Nat.{ℕ, suc, ◌+◌, ◌-◌, ◌≤◌, min}
use native.Mathlib.Omega.{arith}
use lib.ListN.{length, take, drop, set, length-append, take-append-drop}
use borrow.Rule.Slice.PartMut.{put_mid, Post-is}
use lib.Seq.{sets, length-sets, sets-eq, set_out, take-length, length-take-le}
use Rattle.common.proofs.Cases.{by_lt}
use Rattle.text.specs.Text.{put}

-- BYTE AFTER BYTE

pub sets_append : (v w l : List ℕ) (i : ℕ) → sets l i (v ++ w) ≡ sets (sets l i v) (i + length v) w
sets_append [] w l i = let e : i + 0 ≡ i = omega arith in rw e
sets_append (x ∷ v) w l i =
    let e : i + suc (length v) ≡ suc i + length v = omega arith in
    rw e (sets_append v w (set l i x) (suc i))

-- past the end nothing is stored
pub sets_out : (w l : List ℕ) (i : ℕ) → length l ≤ i → sets l i w ≡ l
sets_out [] l i h = refl
sets_out (x ∷ w) l i h = rw (set_out l i x h) (sets_out w l (suc i) (omega arith))

-- as many bytes as there is room for are the whole word
pub sets_room : (l word : List ℕ) (to count : ℕ) → count ≡ min (length word) (length l - to) → sets l to (take count word) ≡ sets l to word
sets_room l word to count e =
    by_lt (length l - to) (length word)
    (λ h _.
    let all : sets l to word ≡ sets (sets l to (take count word)) (to + length (take count word)) (drop count word) =
    ap (sets l to) (sym (take-append-drop count word)) ∙ sets_append (take count word) (drop count word) l to in
    let past : length (sets l to (take count word)) ≤ to + length (take count word) =
    rw (length-sets, length-take-le count word (omega arith)) (omega arith) in
    sym (all ∙ sets_out (drop count word) _ _ past))
    (λ h _. let whole : count ≡ length word = omega arith in rw (whole, take-length))

-- past the end it matters not where
sets_from : (w l : List ℕ) (to : ℕ) → sets l to w ≡ sets l (min to (length l)) w
sets_from w l to =
    by_lt (length l) to
    (λ h _. let end : min to (length l) ≡ length l = omega arith in
    rw (end, sets_out w l to (omega arith), sets_out w l (length l) (omega arith)))
    (λ h _. let there : min to (length l) ≡ to = omega arith in rw there)

-- what copying a word into a line leaves, as much of it as there is room for
pub put_part : (to from count : ℕ) (word l part : List ℕ) → from ≡ min to (length l) → count ≡ min (length word) (length l - from) →
    part ≡ take count word →
    ◌≡◌ {A = ℕ × List ℕ} (to + count, put_mid from (from + count - from) l part) (put to word l)
put_part to from count word l part f e same =
    let room : count ≡ min (length word) (length l - to) = omega arith in
    let some : length (take count word) ≡ count = length-take-le count word (omega arith) in
    let after = Post-is from (from + count) l (omega arith) in
    let stored : sets l from word ≡ take from l ++ (part ++ drop (from + count) l) =
    sym (sets_room l word from count e) ∙ sets-eq (take count word) l from (omega (arith, some)) ∙ rw (some, same, append_assoc) in
    rw (sets_from word l to, ← f, stored, after, ← room)

-- WORD AFTER WORD

module _ (to : ℕ) (v w l : List ℕ) where
  put_next_place : (put to v l).0 + min (length w) (length (put to v l).1 - (put to v l).0) ≡ (put to (v ++ w) l).0
  put_next_place = rw (length-sets, length-append) (omega arith)

  put_next_line : sets (put to v l).1 (put to v l).0 w ≡ (put to (v ++ w) l).1
  put_next_line =
      by_lt (length l - to) (length v)
      (λ h _.
      let cut : to + min (length v) (length l - to) ≡ to + (length l - to) = omega arith in
      let out : sets (sets l to v) (to + (length l - to)) w ≡ sets l to v = sets_out w (sets l to v) _ (rw length-sets (omega arith)) in
      let out' : sets (sets l to v) (to + length v) w ≡ sets l to v = sets_out w (sets l to v) _ (rw length-sets (omega arith)) in
      rw (cut, out, sets_append v w l to, out'))
      (λ h _. let whole : to + min (length v) (length l - to) ≡ to + length v = omega arith in rw (whole, sets_append v w l to))

-- what two puts leave, the second from where the first ended
pub put_then : {r r' : ℕ} {m m' : List ℕ} (to : ℕ) (v w l : List ℕ) → (r, m) ≡ put to v l → (r', m') ≡ put r w m →
    (r', m') ≡ put to (v ++ w) l
put_then {r} {r'} {m} {m'} to v w l e e' =
    let place : r ≡ (put to v l).0 = ap (λ (t : ℕ × List ℕ). t.0) e in
    let line : m ≡ (put to v l).1 = ap (λ (t : ℕ × List ℕ). t.1) e in
    e' ∙ rw (place, line, put_next_place to v w l, put_next_line to v w l)

-- a word that fits
pub put_fits : (to : ℕ) (w l : List ℕ) → to + length w ≤ length l → put to w l ≡ (to + length w, take to l ++ w ++ drop (to + length w) l)
put_fits to w l h = let whole : to + min (length w) (length l - to) ≡ to + length w = omega arith in rw (whole, sets-eq w l to h)

-- a word that fits, from the first place on
pub put_front : (w l : List ℕ) → length w ≤ length l → put 0 w l ≡ (length w, w ++ drop (length w) l)
put_front w l h = let none : 0 + length w ≡ length w = omega arith in put_fits 0 w l (omega arith) ∙ rw none

pub put_size : {r : ℕ} {m : List ℕ} (to : ℕ) (w l : List ℕ) → to ≡ 0 → length w ≤ length l → (r, m) ≡ put to w l → r ≡ length w
put_size {r} {m} to w l z h e = ap (λ (t : ℕ × List ℕ). t.0) (e ∙ ap (λ (k : ℕ). put k w l) z ∙ put_front w l h)
