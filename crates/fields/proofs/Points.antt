-- A gas at a run of points as sums that grow node by node, and the answers as lists that grow point by point and run by run. Assumes
-- nothing.
use mathlib.Core.Path.{◌≡◌, refl, sym, ap, ◌∙◌}
use mathlib.Core.List.{List}
use Prim.Native.Nat.{ℕ, ◌+◌, ◌-◌, ◌*◌, ◌<◌, ◌≤◌, min}
use native.Mathlib.Nat.{add_assoc, zero-add, suc-mul, mul-le-mul}
use native.Mathlib.Numerals.{add-one}
use native.Mathlib.Omega.{arith}
use lib.Ieee.{Float, nan}
use lib.ListN.{length, get_or, set}
use lib.Seq.{set-get_or}
use Rattle.common.specs.Floats.{plus, times, zero₆₄, sums}
use Rattle.common.specs.Lists.{tabulate, stretch}
use Rattle.common.specs.Matrices.{matrix}
use Rattle.common.proofs.Fill.{Filling, filling_none, filling_more, changing_more, filling_done, stretch_none, stretch_length}
use Rattle.common.proofs.Fill.{stretch_inside, stretch_cong, stretch_again, fill_read, fill_after, fill_all, fill_on}
use Rattle.common.proofs.Sums.{adding_none, adding_next, adding_all}
use Rattle.airs.specs.Airs.{number_of, ratio_or}
use Rattle.fields.specs.Fields.{field, air_at, answers_of, ratios_of}
use Rattle.fields.specs.Working.{Runs, two_more, air_here, air_from, told_from, told_of}
use Rattle.airs.specs.declared.Air.{Air}
use Rattle.airs.specs.declared.Air.TheVariants.{Ratio, Unusable, Fresh}

-- A GAS: the first nodes have been added at each point of a run, over zeros

module _ (N P from count : ℕ) (v e zeros : List Float) where
  -- what node k adds at the run's point i
  abbrev term : (i k : ℕ) → Float
  term i k = times (matrix P v (from + i) k) (get_or e k nan)

  pub record Summing (now : List Float) (node at : ℕ) : Type 0 where
    pub most : node ≤ N
    pub place : at ≡ node * P + from
    pub long : length now ≡ length zeros
    pub made : now ≡ stretch 0 count (λ i. sums node (term i)) zeros

  module _ (before : List Float) (fits : Runs N P from count v e before) (z : zeros ≡ stretch 0 count (λ i. zero₆₄) before) where
    room : 0 + count ≤ length before
    room = omega (arith, fits.room)

    pub summing_none : Summing zeros 0 from
    summing_none =
        record { most = omega arith; place = omega arith; long = refl; made = adding_none 0 count term before room zeros z }

    pub summing_done : (now : List Float) (node at : ℕ) → Summing now node at → N ≤ node →
        now ≡ stretch 0 count (λ i. field N P v e (from + i)) before
    unfolding field
    summing_done now node at h l =
        let all : node ≡ N = omega (arith, h.most) in
        adding_all 0 count term before room zeros now N z (rw all at h.made)

  -- where a node's values stand: those of the next one a column on, and all of them in the list
  module _ (node at : ℕ) (place : at ≡ node * P + from) where
    pub next_place : at + P ≡ (node + 1) * P + from
    next_place = let next : (node + 1) * P ≡ node * P + P = rw (add-one, suc-mul) in omega (arith, place, next)

    pub inside : node < N → length v ≡ N * P → from + count ≤ P → at + count ≤ length v
    inside l long points =
        let whole : (node + 1) * P ≤ N * P = mul-le-mul {n₁ = node + 1} {m₁ = P} {n₂ = N} {m₂ = P} (omega arith) (omega arith) in
        rw long (omega (arith, next_place, points, whole))

  module _ (now : List Float) (node at : ℕ) (h : Summing now node at) (l : node < N) where
    pub summing_more : 0 + count ≤ length zeros → (after : List Float) → length after ≡ length now →
        after ≡ stretch 0 count (λ i. plus (get_or now (0 + i) nan) (times (get_or v (at + i) nan) (get_or e node nan))) now →
        Summing after (node + 1) (at + P)
    summing_more wide after same a =
        record {
          most = omega arith;
          place = next_place node at h.place;
          long = same ∙ h.long;
          made = a ∙ adding_next 0 count term zeros wide now node _ h.made
              (λ i b. ap (λ (k : ℕ). plus (get_or now (0 + i) nan) (times (get_or v k nan) (get_or e node nan)))
              (ap (λ (k : ℕ). k + i) h.place ∙ add_assoc (node * P) from i));
        }

  -- two nodes at once are two nodes in turn: `half` is what the first would leave
  module _ (now : List Float) (node at : ℕ) (h : Summing now node at) (l : node + 1 < N) (wide : 0 + count ≤ length zeros) where
    fits : 0 + count ≤ length now
    fits = omega (arith, h.long)

    abbrev one : (i : ℕ) → Float
    one i = plus (get_or now (0 + i) nan) (times (get_or v (at + i) nan) (get_or e node nan))

    abbrev half : List Float
    half = stretch 0 count one now

    abbrev both : (i : ℕ) → Float
    both = two_more v at (at + P) (get_or e node nan) (get_or e (node + 1) nan) now

    abbrev other : (i : ℕ) → Float
    other i = plus (get_or half (0 + i) nan) (times (get_or v (at + P + i) nan) (get_or e (node + 1) nan))

    one_then_other : (i : ℕ) → i < count → both i ≡ other i
    one_then_other i b =
        let here : get_or half (0 + i) nan ≡ one i = stretch_inside 0 one now count i nan b (omega arith) in
        rw (here, zero-add)

    pub summing_two : (after : List Float) → length after ≡ length now → after ≡ stretch 0 count both now →
        Summing after (node + 2) (at + P + P)
    summing_two after same a =
        let long : length half ≡ length now = stretch_length 0 one now count fits in
        let first : Summing half (node + 1) (at + P) = summing_more now node at h (omega arith) wide half long refl in
        let made : after ≡ stretch 0 count other half =
        a ∙ sym (stretch_again 0 count one both now fits) ∙ stretch_cong 0 count both other half one_then_other in
        let second : Summing after (node + 1 + 1) (at + P + P) =
        summing_more half (node + 1) (at + P) first l wide after (same ∙ sym long) made in
        let two : node + 1 + 1 ≡ node + 2 = omega arith in
        rw two at second

-- A RUN is told point by point

module _ (from count : ℕ) (air : ℕ → Air) (a₀ : List ℕ) (r₀ : List Float) where
  pub record Telling (a : List ℕ) (r : List Float) (i : ℕ) : Type 0 where
    pub answers : Filling from count (λ k. number_of (air k)) a₀ a i
    pub ratios : Filling from count (λ k. ratio_or (air k) (get_or r₀ (from + k) nan)) r₀ r i

  pub telling_none : Telling a₀ r₀ 0
  telling_none = record { answers = filling_none from count _ a₀; ratios = filling_none from count _ r₀ }

  module _ (long : from + count ≤ length a₀) (wide : from + count ≤ length r₀) (a : List ℕ) (r : List Float) (i : ℕ) (h : Telling a r i)
    where
      pub telling_more : (this : Air) (at : ℕ) → this ≡ air i → at ≡ from + i → i < count → (a' : List ℕ) (r' : List Float) →
          a' ≡ set a at (number_of this) → r' ≡ set r at (ratio_or this (get_or r at nan)) → Telling a' r' (i + 1)
      telling_more this at e p l a' r' s t =
          record {
            answers = rw s (filling_more from count _ a₀ a i at 0 _ h.answers l long p (ap number_of e));
            ratios = rw t (changing_more from count _ r₀ (ratio_or (air i)) r i at nan _ h.ratios l wide p refl
                (ap (λ (x : Air). ratio_or x (get_or r at nan)) e));
          }

      pub telling_done : count ≤ i → (a, r) ≡ told_from from count air a₀ r₀
      telling_done l = rw (filling_done from count _ a₀ a i h.answers l, filling_done from count _ r₀ r i h.ratios l)

-- ALL POINTS, run by run

module _ (P : ℕ) (air : ℕ → Air) (a₀ : List ℕ) (r₀ : List Float) where
  pub record Told (a : List ℕ) (r : List Float) (point : ℕ) : Type 0 where
    pub most : point ≤ P
    pub as_long : length a ≡ P
    pub as_wide : length r ≡ P
    pub answers : a ≡ stretch 0 point (λ k. number_of (air k)) a₀
    pub ratios : r ≡ stretch 0 point (λ k. ratio_or (air k) (get_or r₀ k nan)) r₀

  pub told_none : length a₀ ≡ P → length r₀ ≡ P → Told a₀ r₀ 0
  told_none long wide =
      record {
        most = omega arith;
        as_long = long;
        as_wide = wide;
        answers = sym (stretch_none 0 (λ k. number_of (air k)) a₀);
        ratios = sym (stretch_none 0 (λ k. ratio_or (air k) (get_or r₀ k nan)) r₀);
      }

  module _ (long : length a₀ ≡ P) (wide : length r₀ ≡ P) (a : List ℕ) (r : List Float) (point : ℕ) (h : Told a r point) where
    pub told_more : (count : ℕ) → point + count ≤ P → (a' : List ℕ) (r' : List Float) → length a' ≡ length a → length r' ≡ length r →
        (a', r') ≡ told_from point count (air_from point air) a r → Told a' r' (point + count)
    told_more count l a' r' la lr t =
        record {
          most = l;
          as_long = la ∙ h.as_long;
          as_wide = lr ∙ h.as_wide;
          answers = ap (λ (m : List ℕ × List Float). m.0) t ∙ rw h.answers
              (fill_on point count (λ k. number_of (air k)) _ a₀ (λ i b. refl) (omega arith));
          ratios = ap (λ (m : List ℕ × List Float). m.1) t ∙ rw h.ratios
              (fill_on point count (λ k. ratio_or (air k) (get_or r₀ k nan)) _ r₀
              (λ i b. ap (ratio_or (air (point + i))) (fill_after point _ r₀ i nan (omega arith))) (omega arith));
        }

    pub told_done : P ≤ point → (a, r) ≡ told_of P air r₀
    unfolding answers_of ratios_of
    told_done l =
        let all : point ≡ P = omega (arith, h.most) in
        let is : a ≡ tabulate P (λ k. number_of (air k)) = h.answers ∙ rw all (fill_all P _ a₀ long) in
        let are : r ≡ tabulate P (λ k. ratio_or (air k) (get_or r₀ k nan)) = h.ratios ∙ rw all (fill_all P _ r₀ wide) in
        rw (is, are)

-- the air of a run, from the gases that were found there
module _ (N P from count : ℕ) (floor : Float) (v c n o co n2 o2 co₀ n2₀ o2₀ : List Float)
    (h : co ≡ stretch 0 count (λ i. field N P v c (from + i)) co₀) (h' : n2 ≡ stretch 0 count (λ i. field N P v n (from + i)) n2₀)
    (h'' : o2 ≡ stretch 0 count (λ i. field N P v o (from + i)) o2₀) where
  air_same : (i : ℕ) → i < count → air_here floor co n2 o2 i ≡ air_from from (air_at N P floor v c n o) i
  air_same i b =
      rw (
        h,
        h',
        h'',
        fill_read count (λ j. field N P v c (from + j)) co₀ i nan b,
        fill_read count (λ j. field N P v n (from + j)) n2₀ i nan b,
        fill_read count (λ j. field N P v o (from + j)) o2₀ i nan b,
      )

  pub told_same : (a : List ℕ) (r : List Float) →
      told_from from count (air_here floor co n2 o2) a r ≡ told_from from count (air_from from (air_at N P floor v c n o)) a r
  told_same a r =
      rw (
        stretch_cong from count (λ i. number_of (air_here floor co n2 o2 i)) (λ i. number_of (air_from from (air_at N P floor v c n o) i)) a
            (λ i b. ap number_of (air_same i b)),
        stretch_cong from count (λ i. ratio_or (air_here floor co n2 o2 i) (get_or r (from + i) nan))
            (λ i. ratio_or (air_from from (air_at N P floor v c n o) i) (get_or r (from + i) nan)) r
            (λ i b. ap (λ (x : Air). ratio_or x (get_or r (from + i) nan)) (air_same i b)),
      )

-- the points that are left make a run, or more than one
pub run_fits : (P point count : ℕ) → count ≡ min 32 (P - point) → point < P → (count ≤ 32) × (point + count ≤ P) × (0 < count)
run_fits P point count e l = (omega arith, omega arith, omega arith)

-- ONE PLACE: the number that was found, and the ratio where there is one; a place that gets none keeps what it had

kept : (air : Air) (other : Float) → ((x : Float) → air ≡ Ratio x → ⊥) → ratio_or air other ≡ other
unfolding ratio_or
kept (Ratio x) other h = absurd (h x refl)
kept Unusable other h = refl
kept Fresh other h = refl

module _ (a : List ℕ) (r : List Float) (k n : ℕ) (this : Air) (e : n ≡ number_of this) where
  abbrev Put : List Float → Type 0
  Put r' = (set a k n ≡ set a k (number_of this)) × (r' ≡ set r k (ratio_or this (get_or r k nan)))

  pub put_ratio : (x : Float) → this ≡ Ratio x → Put (set r k x)
  unfolding ratio_or
  put_ratio x h = (ap (set a k) e, rw h)

  pub put_none : ((x : Float) → this ≡ Ratio x → ⊥) → Put r
  put_none h = (ap (set a k) e, rw (kept this (get_or r k nan) h) (sym (set-get_or r k nan)))
