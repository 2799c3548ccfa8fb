-- Bytes that are stored one by one, where there is room, are a word that is put; and what is looked at in the record at a place. Assumes
-- nothing.
use mathlib.Core.Path.{◌≡◌}
use mathlib.Core.Bool.{Bool, ◌&&◌}
use mathlib.Core.List.{List, [], ◌∷◌, ◌++◌, append_assoc}
use mathlib.Core.Option.{none, some}
use Prim.Native.Nat.{ℕ, ◌+◌, ◌-◌, ◌≤◌, min}
use native.Mathlib.Omega.{arith}
use lib.Dec.{eqb}
use lib.ListN.{length, get_or, drop}
use borrow.Rule.Slice.PartMut.{put_mid, Post-is}
use lib.Seq.{get_or-drop}
use Rattle.text.specs.Text.{put}
use Rattle.text.proofs.Putting.{put_then, put_fits}
use Rattle.vectors.specs.declared.Known.{Known}
use Rattle.vectors.specs.LookUps.{look_up}
use Rattle.records.specs.Text.{vector}
use Rattle.mending_lines.specs.Records.{found, right_for, right, places}
use Rattle.mending_lines.specs.Working.{place_if, changed_later, no_place}
use Rattle.mending_lines.proofs.Lines.{none_later, places_later}

module _ (l : List ℕ) (to : ℕ) where
  pub put_nothing : (to, l) ≡ put to [] l
  put_nothing = let e : to + min 0 (length l - to) ≡ to = omega arith in rw e

  -- a word that is copied to a place where there is room
  pub put_whole : (e : ℕ) (w : List ℕ) {part : List ℕ} → e ≡ to + length w → e ≤ length l → part ≡ w →
      (e, put_mid to (e - to) l part) ≡ put to w l
  put_whole e w {part} end h same =
      let fits : to + length w ≤ length l = omega arith in
      rw (put_fits to w l fits, Post-is to e l (omega arith), same, end, append_assoc)

-- A RECORD AT A PLACE

module _ (l : List ℕ) (at : ℕ) where
  pub found_at : look_up (get_or l at 0) (vector (get_or l (at + 1) 0) (get_or l (at + 2) 0) (get_or l (at + 3) 0)) ≡ found (drop at l)
  unfolding found
  found_at =
      let zero : at + 0 ≡ at = omega arith in
      rw (get_or-drop at l 0, get_or-drop at l 1, get_or-drop at l 2, get_or-drop at l 3, zero)

  pub kept_at : (k : Known) {a b c d : Bool} → a ≡ eqb (get_or l (at + 4) 0) k.case → b ≡ eqb (get_or l (at + 5) 0) k.reference →
      c ≡ eqb (get_or l (at + 6) 0) 0 → d ≡ eqb (get_or l (at + 7) 0) 0 → (((a && b) && c) && d) ≡ no_place (changed_later k (drop at l))
  kept_at k {a} {b} {c} {d} p q r s =
      rw (none_later k (drop at l), get_or-drop at l 4, get_or-drop at l 5, get_or-drop at l 6, get_or-drop at l 7, p, q, r, s)

  -- eight zeros, or the record's own bytes with those of the lookup
  pub right_refused : (n : ℕ) → found (drop at l) ≡ (n, none) → right (drop at l) ≡ (0 ∷ 0 ∷ 0 ∷ 0 ∷ []) ++ (0 ∷ 0 ∷ 0 ∷ 0 ∷ [])
  unfolding right right_for
  right_refused n h = rw h

  pub right_taken : (n : ℕ) (k : Known) → found (drop at l) ≡ (n, some k) →
      right (drop at l)
      ≡ (get_or l at 0 ∷ get_or l (at + 1) 0 ∷ get_or l (at + 2) 0 ∷ get_or l (at + 3) 0 ∷ []) ++ (k.case ∷ k.reference ∷ 0 ∷ 0 ∷ [])
  unfolding right right_for
  right_taken n k h =
      let zero : at + 0 ≡ at = omega arith in
      rw (h, get_or-drop at l 0, get_or-drop at l 1, get_or-drop at l 2, get_or-drop at l 3, zero)

  -- four bytes, and then four more
  pub right_stored : (v w o : List ℕ) {m m' : List ℕ} → right (drop at l) ≡ v ++ w → (at + 4, m) ≡ put at v o →
      (at + 4 + 4, m') ≡ put (at + 4) w m → (at + 8, m') ≡ put at (right (drop at l)) o
  right_stored v w o {m} {m'} e p q = let eight : at + 4 + 4 ≡ at + 8 = omega arith in rw (e, ← eight) (put_then at v w o p q)

  -- the places that change, put one after the other
  abbrev at₄ : Known → List ℕ
  at₄ k = places (place_if 4 (get_or l (at + 4) 0) k.case)

  abbrev at₅ : Known → List ℕ
  at₅ k = places (place_if 5 (get_or l (at + 5) 0) k.reference)

  abbrev at₆ : List ℕ
  at₆ = places (place_if 6 (get_or l (at + 6) 0) 0)

  abbrev at₇ : List ℕ
  at₇ = places (place_if 7 (get_or l (at + 7) 0) 0)

  pub four_places : (k : Known) (to : ℕ) (t : List ℕ) {r₁ r₂ r₃ r₄ : ℕ} {t₁ t₂ t₃ t₄ : List ℕ} → (r₁, t₁) ≡ put to (at₄ k) t →
      (r₂, t₂) ≡ put r₁ (at₅ k) t₁ → (r₃, t₃) ≡ put r₂ at₆ t₂ → (r₄, t₄) ≡ put r₃ at₇ t₃ →
      (r₄, t₄) ≡ put to (places (changed_later k (drop at l))) t
  four_places k to t {r₁} {r₂} {r₃} {r₄} {t₁} {t₂} {t₃} {t₄} p q r s =
      rw (places_later (drop at l) 0 k, get_or-drop at l 4, get_or-drop at l 5, get_or-drop at l 6, get_or-drop at l 7)
      (put_then to (at₄ k) (at₅ k ++ (at₆ ++ at₇)) t p (put_then r₁ (at₅ k) (at₆ ++ at₇) t₁ q (put_then r₂ at₆ at₇ t₂ r s)))
