-- The kinds of line, from the parts that the code reads of them. Assumes nothing.
use mathlib.Core.Path.{◌≡◌, refl, sym, ap, ◌∙◌}
use mathlib.Core.Bool.{Bool, true, false, and-false}
use mathlib.Core.List.{List, [], ◌∷◌, map}
use mathlib.Core.Option.{Option, some, none}
use Prim.Native.Nat.{ℕ, ◌+◌, ◌-◌, ◌<◌, ◌≤◌}
use native.Mathlib.Omega.{arith}
use lib.Dec.{eqb, leb}
use lib.ListN.{length, take, drop, length-take, length-drop}
use lib.Seq.{drop-drop}
use lib.Pointwise.{pointwise, bytes_decides}
use borrow.Author.Tests.{eq-eqb, ne_eqb, lt-leb}
use Rattle.std.specs.Prelude.{Some, None, IsTrue, ◌↔◌, not}
use Rattle.std.specs.Char.{to_ascii_lowercase}
use Rattle.std.specs.List.{position, list_all, starts_with}
use Rattle.common.proofs.Cases.{by_bool, by_lt, by_eq, inside, not_both}
use Rattle.common.specs.Refusals.{most_entries}
use Rattle.exchange_format.specs.Lines.{space, before, from, past, same}
use Rattle.exchange_format.specs.Words.{banner, kind, small, is_first, is_comment, is_passed, numeral, pair, size}
use Rattle.exchange_lines.proofs.Scanning.{done, before_take, from_drop}
use Rattle.exchange_lines.proofs.Running.{numeral_none}
use Rattle.exchange_lines.proofs.Parts.{tail, some_place, no_place, before_place, past_place, past_all}

-- THE FIRST LINE

same_pairs : (s t : List ℕ) → same s t ≡ pointwise eqb s t
unfolding same
same_pairs [] [] = refl
same_pairs [] (y ∷ t) = refl
same_pairs (x ∷ s) [] = refl
same_pairs (x ∷ s) (y ∷ t) = by_bool (eqb x y) (λ e. rw e (same_pairs s t)) (λ e. rw e)

same_self : (s : List ℕ) → same s s ≡ true
unfolding same
same_self [] = refl
same_self (x ∷ s) = rw (eq-eqb x x refl) (same_self s)

same_equal : (s t : List ℕ) → same s t ≡ true → s ≡ t
same_equal s t e = (bytes_decides s t).0 (sym (same_pairs s t) ∙ e)

lower : (b : ℕ) → to_ascii_lowercase b ≡ small b
unfolding small
lower b =
    by_lt b 65 (λ l e. rw (e, lt-leb 65 b l))
    (λ l e. by_lt b 91
    (λ m f. rw (e, f, inside 65 90 b l (omega arith)))
    (λ m f. rw (e, f, lt-leb b 90 (omega arith), and-false (leb 65 b))))

lowers : (s : List ℕ) → map to_ascii_lowercase s ≡ map small s
lowers [] = refl
lowers (x ∷ s) = rw (lower x, lowers s)

pub first_not : (l : List ℕ) → pointwise eqb (take 14 l) banner ≡ false → false ≡ is_first l
unfolding is_first
first_not l e = rw (same_pairs (take 14 l) banner, e)

-- what is left is the other words, in any case
is_kind : (s : List ℕ) (r : Bool) → (IsTrue r ↔ (map to_ascii_lowercase s ≡ map to_ascii_lowercase kind)) → r ≡ same (map small s) kind
is_kind s r h =
    by_bool r
    (λ t. let q : map small s ≡ kind = sym (lowers s) ∙ h.0 t in rw (t, q) (sym (same_self kind)))
    (λ f. by_bool (same (map small s) kind)
    (λ t. not_both (h.1 (lowers s ∙ same_equal (map small s) kind t)) f)
    (λ n. f ∙ sym n))

pub first_kind : (l s : List ℕ) (r : Bool) → pointwise eqb (take 14 l) banner ≡ true → s ≡ drop 14 l →
    (IsTrue r ↔ (map to_ascii_lowercase s ≡ map to_ascii_lowercase kind)) → r ≡ is_first l
unfolding is_first
first_kind l s r e p h =
    let one : same (take 14 l) banner ≡ true = same_pairs (take 14 l) banner ∙ e in
    rw one (is_kind s r h ∙ ap (λ (t : List ℕ). same (map small t) kind) p)

-- WHAT IS PASSED OVER

comment : (l : List ℕ) → starts_with eqb l (37 ∷ []) ≡ is_comment l
comment [] = refl
comment (x ∷ l) = by_eq x 37 (λ e t. rw e) (λ n t. rw (t, ne_eqb 37 x (λ q. n (sym q))))

module _ (l : List ℕ) (r : Bool) (e : r ≡ starts_with eqb l (37 ∷ [])) where
  pub passed_comment : r ≡ true → r ≡ is_passed l
  unfolding is_passed
  passed_comment t = let c : is_comment l ≡ true = sym (comment l) ∙ sym e ∙ t in rw c t

  pub passed_blank : r ≡ false → (b : Bool) → b ≡ list_all (λ x. eqb x space) l → b ≡ is_passed l
  unfolding is_passed
  passed_blank f b p = let c : is_comment l ≡ false = sym (comment l) ∙ sym e ∙ f in rw c (p ∙ sym (past_all space l))

-- THE SIZE LINE

pair_none : (a : Option ℕ) → none ≡ pair a none
pair_none none = refl
pair_none (some m) = refl

past_none : (s : List ℕ) → s ≡ [] → past space s ≡ []
unfolding past
past_none s e = rw e

module _ (l : List ℕ) where
  no_second : past space (from space l) ≡ [] → none ≡ size l
  unfolding size
  no_second e = rw (e, numeral_none most_entries [] refl) (pair_none (numeral most_entries (before space l)))

  pub size_one_word : position (λ x. eqb x space) l ≡ None → none ≡ size l
  size_one_word e =
      let over : length l ≤ length (before space l) = omega (arith, no_place (λ x. eqb x space) l e, before_place space l) in
      let gone : from space l ≡ [] = sym (from_drop space l) ∙ done l (length (before space l)) over in
      no_second (past_none (from space l) gone)

  module _ (end : ℕ) (e : position (λ x. eqb x space) l ≡ Some end) where
    end_is : end ≡ length (before space l)
    end_is = (some_place (λ x. eqb x space) l end e).0 ∙ sym (before_place space l)

    pub end_most : end < length l
    end_most = (some_place (λ x. eqb x space) l end e).1

    first_is : take end l ≡ before space l
    first_is = rw end_is (before_take space l)

    from_is : take (length l - end) (drop end l) ≡ from space l
    from_is = tail l end ∙ rw end_is (from_drop space l)

    pub size_no_second : position (λ x. not (eqb x space)) (take (length l - end) (drop end l)) ≡ None → none ≡ size l
    size_no_second n =
        let p : position (λ x. not (eqb x space)) (from space l) ≡ None = rw from_is at n in
        no_second (sym (past_place space (from space l)) ∙ done (from space l) _ (no_place (λ x. not (eqb x space)) (from space l) p))

    module _ (spaces : ℕ) (n : position (λ x. not (eqb x space)) (take (length l - end) (drop end l)) ≡ Some spaces) where
      pub spaces_most : end + spaces < length l
      spaces_most =
          let place = some_place (λ x. not (eqb x space)) (take (length l - end) (drop end l)) spaces n in
          omega (arith, place.1, length-take (length l - end) (drop end l), length-drop end l)

      second_is : take (length l - (end + spaces)) (drop (end + spaces) l) ≡ past space (from space l)
      second_is =
          let q : position (λ x. not (eqb x space)) (from space l) ≡ Some spaces = rw from_is at n in
          let place = some_place (λ x. not (eqb x space)) (from space l) spaces q in
          tail l (end + spaces) ∙ sym (drop-drop spaces end l) ∙
          ap (drop spaces) (sym (tail l end) ∙ from_is) ∙ ap (λ (k : ℕ). drop k (from space l)) place.0 ∙ past_place space (from space l)

      pub size_first : numeral most_entries (take end l) ≡ none → none ≡ size l
      unfolding size
      size_first a = rw (← first_is, a)

      module _ (m : ℕ) (a : numeral most_entries (take end l) ≡ some m) where
        pub size_second : numeral most_entries (take (length l - (end + spaces)) (drop (end + spaces) l)) ≡ none → none ≡ size l
        unfolding size
        size_second b = rw (← first_is, ← second_is, a, b)

        pub size_both : (k : ℕ) → numeral most_entries (take (length l - (end + spaces)) (drop (end + spaces) l)) ≡ some k →
            some (record { rows = m; columns = k }) ≡ size l
        unfolding size
        size_both k b = rw (← first_is, ← second_is, a, b)
