-- What a verdict says: a kept record is unchanged, a mended one is changed at exactly the bytes that are named, and a blanked one has
-- eight zeros and the number of its refusal. Assumes nothing.
use mathlib.Core.Path.{◌≡◌, refl, sym, ap}
use mathlib.Core.Bool.{Bool, true}
use mathlib.Core.List.{List, [], ◌∷◌}
use mathlib.Core.Option.{Option, none, some}
use Prim.Native.Nat.{ℕ, zero, suc, ◌<◌, ◌≤◌}
use native.Mathlib.Omega.{arith}
use lib.Dec.{eqb}
use lib.ListN.{length, get_or, take, replicate}
use lib.Seq.{get_or-take, ext_get_or, length-take-le}
use borrow.Author.Tests.{eqb-false, ne_eqb}
use Rattle.common.specs.Tests.{count}
use Rattle.common.proofs.Cases.{by_lt, by_eq, of_not}
use Rattle.common.proofs.Tests.{length_those, those_count, those_listed, count_less, Listed}
use Rattle.vectors.specs.declared.Known.{Known}
use Rattle.mending_lines.specs.Records.{found, right_for, right, differs, changed, kept, mended, blanked, taken, verdict_for, verdict}
use Rattle.mending.specs.Promises.{Named, Exactly}
use Rattle.mending.proofs.Records.{right_size}

count_rises : (f : ℕ → Bool) (j k : ℕ) → j ≤ k → count j f ≤ count k f
unfolding count
count_rises f j zero h = let z : j ≡ 0 = omega arith in rw z (omega arith)
count_rises f j (suc k) h =
    by_lt k j
    (λ l _. let e : j ≡ suc k = omega arith in rw e (omega arith))
    (λ l _. let less = count_rises f j k l in omega arith)

module _ (old new : List ℕ) where
  abbrev test : ℕ → Bool
  test = differs old new

  listed : (i : ℕ) → i < length (changed old new) → Listed 8 test i (get_or (changed old new) i 0)
  unfolding changed
  listed i b = those_listed 8 test i (omega (arith, length_those 8 test))

  differ : (k : ℕ) → (get_or old k 0 ≡ get_or new k 0 → ⊥) → test k ≡ true
  unfolding differs
  differ k d = rw (ne_eqb (get_or old k 0) (get_or new k 0) d)

  differed : (k : ℕ) → test k ≡ true → get_or old k 0 ≡ get_or new k 0 → ⊥
  unfolding differs
  differed k t = eqb-false (get_or old k 0) (get_or new k 0) (of_not (eqb (get_or old k 0) (get_or new k 0)) true t)

  name : (k : ℕ) → k < 8 → test k ≡ true → Named (changed old new) k
  unfolding changed
  name k b t =
      record { at = count k test; on = omega (arith, length_those 8 test, count_less test k 8 b t); is = those_count 8 test k b t }

  rise : (i : ℕ) → suc i < length (changed old new) → get_or (changed old new) i 0 < get_or (changed old new) (suc i) 0
  rise i b =
      let a = listed i (omega arith) in
      let z = listed (suc i) b in
      by_lt (get_or (changed old new) i 0) (get_or (changed old new) (suc i) 0) (λ l _. l)
      (λ g _. absurd (omega (arith, a.before, z.before, count_rises test _ _ g)))

  pub changed_exactly : Exactly (changed old new) old new
  changed_exactly =
      record {
        within = λ k n. rw (← n.is) (listed n.at n.on).below;
        only = λ k n. differed k (rw (← n.is) (listed n.at n.on).passes);
        all = λ k b d. name k b (differ k d);
        rising = rise;
      }

-- where none is named, the two agree
agreed : (old new : List ℕ) → changed old new ≡ [] → (k : ℕ) → k < 8 → get_or old k 0 ≡ get_or new k 0
agreed old new h k b =
    by_eq (get_or old k 0) (get_or new k 0) (λ e _. e)
    (λ d _. let n = (changed_exactly old new).all k b d in absurd (omega (arith, n.on, ap length h)))

-- BACK FROM A VERDICT

kept_for : (f : ℕ × Option Known) (cs : List ℕ) → verdict_for f cs ≡ kept → cs ≡ []
unfolding verdict_for taken
kept_for (n, none) cs h = let z : ◌≡◌ {A = ℕ} 0 1 = cc in absurd (omega arith)
kept_for (n, some e) [] h = refl
kept_for (n, some e) (c ∷ cs) h = let z : ◌≡◌ {A = ℕ} 0 1 = cc in absurd (omega arith)

mended_for : (f : ℕ × Option Known) (cs ks : List ℕ) → verdict_for f cs ≡ mended ks → cs ≡ ks
unfolding verdict_for taken
mended_for (n, none) cs ks h = let z : ◌≡◌ {A = ℕ} 0 1 = cc in absurd (omega arith)
mended_for (n, some e) [] ks h = let z : ◌≡◌ {A = ℕ} 0 1 = cc in absurd (omega arith)
mended_for (n, some e) (c ∷ cs) ks h = cc

blanked_for : (f : ℕ × Option Known) (cs : List ℕ) (k : ℕ) → verdict_for f cs ≡ blanked k → f ≡ (k, none)
unfolding verdict_for taken
blanked_for (n, none) cs k h = let e : n ≡ k = cc in rw e
blanked_for (n, some e) [] k h = let z : ◌≡◌ {A = ℕ} 0 1 = cc in absurd (omega arith)
blanked_for (n, some e) (c ∷ cs) k h = let z : ◌≡◌ {A = ℕ} 0 1 = cc in absurd (omega arith)

-- a kept record is byte for byte the one that was read
pub kept_unchanged : (l : List ℕ) → 8 ≤ length l → verdict l ≡ kept → right l ≡ take 8 l
unfolding verdict
kept_unchanged l h v =
    let none = kept_for (found l) (changed l (right l)) v in
    let size = right_size l in
    ext_get_or 0 (right l) (take 8 l) (rw (size, length-take-le 8 l h))
    (λ i b. rw (get_or-take 8 l i 0 (omega arith)) (sym (agreed l (right l) none i (omega arith))))

-- a mended one is changed at exactly the bytes that are named
pub mended_exactly : (l ks : List ℕ) → verdict l ≡ mended ks → Exactly ks l (right l)
unfolding verdict
mended_exactly l ks v = rw (← mended_for (found l) (changed l (right l)) ks v) (changed_exactly l (right l))

-- a blanked one has eight zeros, and the number is that of its vector's refusal
pub blanked_number : (l : List ℕ) (k : ℕ) → verdict l ≡ blanked k → (found l ≡ (k, none)) × (right l ≡ replicate 8 0)
unfolding verdict right right_for
blanked_number l k v = let e = blanked_for (found l) (changed l (right l)) k v in (e, rw e)

-- the first four bytes of a record whose vector is taken stay, so that only bytes 4 to 7 are named
first_stay : (f : ℕ × Option Known) (l ks cs : List ℕ) (k : ℕ) → k < 4 → verdict_for f cs ≡ mended ks → get_or l k 0 ≡ get_or (right_for f l) k 0
unfolding verdict_for taken right_for
first_stay (n, none) l ks cs k b v = let z : ◌≡◌ {A = ℕ} 0 1 = cc in absurd (omega arith)
first_stay (n, some e) l ks cs zero b v = refl
first_stay (n, some e) l ks cs (suc zero) b v = refl
first_stay (n, some e) l ks cs (suc (suc zero)) b v = refl
first_stay (n, some e) l ks cs (suc (suc (suc zero))) b v = refl
first_stay (n, some e) l ks cs (suc (suc (suc (suc k)))) b v = absurd (omega arith)

pub mended_later : (l ks : List ℕ) → verdict l ≡ mended ks → (k : ℕ) → Named ks k → 4 ≤ k
unfolding verdict right
mended_later l ks v k n =
    by_lt k 4
    (λ b _. absurd ((mended_exactly l ks v).only k n (first_stay (found l) l ks (changed l (right l)) k b v)))
    (λ b _. b)
