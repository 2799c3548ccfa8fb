-- What the call's number says, by the tests that lead to it, and what the call then answers and leaves. Assumes nothing.
use mathlib.Core.Path.{◌≡◌, refl, sym, ap, ◌∙◌}
use mathlib.Core.Bool.{true, false}
use mathlib.Core.List.{List, [], ◌∷◌}
use Prim.Native.Nat.{ℕ, ◌*◌, ◌^◌, ◌≤◌}
use native.Mathlib.Omega.{arith}
use lib.Ieee.{Float, lt}
use lib.Ieee.Scale.{finite}
use lib.ListN.{length}
use borrow.Author.Tests.{eq-eqb, ne_eqb, eqb-true}
use Rattle.common.specs.Floats.{zero₆₄}
use Rattle.common.specs.Refusals.{is_dimension, is_order, most_points, Shape, order_number, shape_number, lower}
use Rattle.common.proofs.Cases.{by_bool, by_eq, equal_and}
use Rattle.common.proofs.Limits.{power_most, shape_out, passed, call_refused, call_done}
use Rattle.coordinates.specs.Scaling.{scaling_number, scale_call}
use Rattle.coefficients.specs.Coefficients.{Memory as Found, coefficients_call as found_at}
use Rattle.coefficients.specs.Before.{Memory as Below, lengths_fit as coefficient_fit, coefficients_number, coefficients_call}
use Rattle.coefficients.specs.Pair.{scaled, found}
use Rattle.coefficients.specs.declared.wanted.Wanted.TheVariants.{Values}
use Rattle.coefficients.proofs.Pairs.{before_taken, lowest_of_two, lowest_asked_first, in_turn}
use Rattle.fields.specs.Fields.{air_at, answers_of, ratios_of}
use Rattle.ratios.specs.Ratios.{is_floor, floor_number, lengths_fit, lengths_number, or_last}
use Rattle.ratios.specs.Ratios.{Memory, below, ratios_number, told, ratios_call}
use Rattle.fields.specs.Working.{Evaluated, told_of}
use Rattle.airs.specs.declared.Air.{Air}

-- THE FLOOR'S NUMBER, and that of the lengths

pub floor_taken : (floor : Float) → lt zero₆₄ floor ≡ true → finite floor ≡ true → 0 ≡ floor_number floor
unfolding floor_number is_floor
floor_taken floor e h = rw (e, h)

pub floor_endless : (floor : Float) → lt zero₆₄ floor ≡ true → finite floor ≡ false → 12 ≡ floor_number floor
unfolding floor_number is_floor
floor_endless floor e h = rw (e, h)

pub floor_low : (floor : Float) → lt zero₆₄ floor ≡ false → 12 ≡ floor_number floor
unfolding floor_number is_floor
floor_low floor e = rw e

module _ (N P : ℕ) (c n o : List Float) (a : List ℕ) (r : List Float) where
  pub wrong_first : (length c ≡ N → ⊥) → 7 ≡ lengths_number N P c n o a r
  unfolding lengths_number lengths_fit
  wrong_first h = rw (ne_eqb _ _ h)

  module _ (fit-c : length c ≡ N) where
    pub wrong_second : (length n ≡ N → ⊥) → 7 ≡ lengths_number N P c n o a r
    unfolding lengths_number lengths_fit
    wrong_second h = rw (eq-eqb _ _ fit-c, ne_eqb _ _ h)

    module _ (fit-n : length n ≡ N) where
      pub wrong_third : (length o ≡ N → ⊥) → 7 ≡ lengths_number N P c n o a r
      unfolding lengths_number lengths_fit
      wrong_third h = rw (eq-eqb _ _ fit-c, eq-eqb _ _ fit-n, ne_eqb _ _ h)

      module _ (fit-o : length o ≡ N) where
        pub wrong_fourth : (length a ≡ P → ⊥) → 7 ≡ lengths_number N P c n o a r
        unfolding lengths_number lengths_fit
        wrong_fourth h = rw (eq-eqb _ _ fit-c, eq-eqb _ _ fit-n, eq-eqb _ _ fit-o, ne_eqb _ _ h)

        module _ (fit-a : length a ≡ P) where
          pub wrong_fifth : (length r ≡ P → ⊥) → 7 ≡ lengths_number N P c n o a r
          unfolding lengths_number lengths_fit
          wrong_fifth h = rw (eq-eqb _ _ fit-c, eq-eqb _ _ fit-n, eq-eqb _ _ fit-o, eq-eqb _ _ fit-a, ne_eqb _ _ h)

          module _ (fit-r : length r ≡ P) where
            pub lengths_taken : 0 ≡ lengths_number N P c n o a r
            unfolding lengths_number lengths_fit
            lengths_taken = rw (eq-eqb _ _ fit-c, eq-eqb _ _ fit-n, eq-eqb _ _ fit-o, eq-eqb _ _ fit-a, eq-eqb _ _ fit-r)

  -- it is 7, or none
  lengths_seven : (lengths_number N P c n o a r ≡ 0 → ⊥) → lengths_number N P c n o a r ≡ 7
  unfolding lengths_number
  lengths_seven = by_bool (lengths_fit N P c n o a r) (λ e. rw e λ h. absurd (h refl)) (λ e. rw e λ h. refl)

-- a list of no entries
empty : (l : List Float) → length l ≡ 0 → l ≡ []
empty [] h = refl
empty (x ∷ l) h = absurd (omega arith)

-- THE LOWER of two numbers, and the last

lower_first : (m k : ℕ) → (m ≡ 0 → ⊥) → ((k ≡ 0 → ⊥) → m ≤ k) → lower m k ≡ m
unfolding lower
lower_first m k h most = rw (ne_eqb m 0 h) (by_eq k 0 (λ _ e. rw e) (λ d e. rw e (let l = most d in omega (arith, l))))

lower_none : (m k : ℕ) → lower m k ≡ 0 → (m ≡ 0) × (k ≡ 0)
unfolding lower
lower_none m k =
    by_eq m 0 (λ z e. rw e λ h. (z, h))
    (λ d e. rw e (by_eq k 0 (λ z e'. rw e' λ h. absurd (d h)) (λ d' e'. rw e' λ h. absurd (omega (arith, d, d')))))

pub or_refused : (m last : ℕ) → (m ≡ 0 → ⊥) → or_last m last ≡ m
unfolding or_last
or_refused m last h = rw (ne_eqb m 0 h)

pub or_done : (last : ℕ) → last ≡ or_last 0 last
unfolding or_last
or_done last = refl

or_none : (m last : ℕ) → or_last m last ≡ 0 → (m ≡ 0) × (last ≡ 0)
unfolding or_last
or_none m last = by_eq m 0 (λ z e. rw e λ h. (z, h)) (λ d e. rw e λ h. absurd (d h))

shape_small : (D p : ℕ) → shape_number D p ≤ 2
unfolding shape_number order_number
shape_small D p =
    by_bool (is_dimension D)
    (λ e. rw e (by_bool (is_order p) (λ e'. rw e' (omega arith)) (λ e'. rw e' (omega arith))))
    (λ e. rw e (omega arith))

-- THE TWO CALLS BELOW, in turn

abbrev left_below : Below → ℕ × Below
left_below m = (0, m)

abbrev among : List Float → Found → Below
among points m = (points, m.0, m.1, m.2, m.3)

module _ (D p P : ℕ) (side : Float) (centre t x v f : List Float) where
  -- asked before anything is scaled
  pub below_lowest : (r m n : ℕ) → r ≡ lower m n → m ≡ scaling_number D P side centre x →
      n ≡ (found_at D p P Values t x (v, [], f, [])).0 → r ≡ (coefficients_call D p P side false centre t (x, v, [], f, [])).0
  unfolding scale_call
  below_lowest r m n e e' e'' = rw (e, e', e'') (lowest_asked_first D p P side false centre t x v [] f [])

  -- and made: neither refuses
  pub scale_taken : (coefficients_call D p P side false centre t (x, v, [], f, [])).0 ≡ 0 → (r : ℕ) (x' : List Float) →
      (r, x') ≡ scale_call D P side centre x → r ≡ 0
  scale_taken z r x' e =
      ap (λ (s : ℕ × List Float). s.0) e ∙ (lower_none _ _ (lowest_of_two D p P side false centre t x v [] f [] ∙ z)).0

  pub found_taken : (coefficients_call D p P side false centre t (x, v, [], f, [])).0 ≡ 0 → (r k : ℕ) (x' : List Float) (m : Found) →
      (r, x') ≡ scale_call D P side centre x → (k, m) ≡ found_at D p P Values t x' (v, [], f, []) → k ≡ 0
  found_taken z r k x' m e e' =
      let points : x' ≡ (scaled D p P side false centre t x v [] f []).1 = ap (λ (s : ℕ × List Float). s.1) e in
      ap (λ (s : ℕ × Found). s.0) e' ∙ ap (λ (y : List Float). (found_at D p P Values t y (v, [], f, [])).0) points
      ∙ (lower_none _ _ (lowest_of_two D p P side false centre t x v [] f [] ∙ z)).1

  -- and what they leave
  pub values_made : (coefficients_call D p P side false centre t (x, v, [], f, [])).0 ≡ 0 → (r k : ℕ) (x' v' g' f' d' : List Float) →
      (r, x') ≡ scale_call D P side centre x → length g' ≡ 0 → length d' ≡ 0 →
      (k, (v', g', f', d')) ≡ found_at D p P Values t x' (v, [], f, []) →
      (0, (x', v', [], f', [])) ≡ coefficients_call D p P side false centre t (x, v, [], f, [])
  values_made z r k x' v' g' f' d' e lg ld m =
      let both = lower_none _ _ (lowest_of_two D p P side false centre t x v [] f [] ∙ z) in
      let points : x' ≡ (scaled D p P side false centre t x v [] f []).1 = ap (λ (s : ℕ × List Float). s.1) e in
      let rest : (v', g', f', d') ≡ (found D p P side false centre t x v [] f []).1 =
      ap (λ (s : ℕ × Found). s.1) m ∙ ap (λ (y : List Float). (found_at D p P Values t y (v, [], f, [])).1) points in
      ap (λ (l : List Float × List Float). left_below (x', v', l.0, f', l.1)) (sym (rw (empty g' lg, empty d' ld)))
      ∙ ap (λ (m' : Found). left_below (x', m'.0, m'.1, m'.2, m'.3)) rest
      ∙ ap (λ (y : List Float). left_below (among y (found D p P side false centre t x v [] f []).1)) points
      ∙ sym (in_turn D p P side false centre t x v [] f [] both.0 both.1)

-- THE CALL

module _ (D p P : ℕ) (side floor : Float) (centre t c n o x v f : List Float) (a : List ℕ) (q : List Float) where
  abbrev lower_number : ℕ
  lower_number = (below D p P side floor centre t c n o x v f).0

  abbrev lengths_number_lem : ℕ
  lengths_number_lem = lengths_number (p ^ D) P c n o a q

  -- a shape that is refused comes first
  pub shape_first : (shape_number D p ≡ 0 → ⊥) → shape_number D p ≡ ratios_number D p P side floor centre t c n o (x, v, f, a, q)
  unfolding ratios_number coefficients_call coefficients_number
  shape_first h =
      let same : shape_number D p ≡ lower_number = shape_out D p _ h in
      let small = shape_small D p in
      let first : lower (shape_number D p) lengths_number_lem ≡ shape_number D p =
      lower_first (shape_number D p) lengths_number_lem h (λ k. let l = lengths_seven (p ^ D) P c n o a q k in omega arith) in
      sym (rw (← same, first) (or_refused (shape_number D p) (floor_number floor) h))

  pub lowest : (r m b l k : ℕ) → r ≡ or_last m k → m ≡ lower b l → b ≡ lower_number → l ≡ lengths_number_lem → k ≡ floor_number floor →
      r ≡ ratios_number D p P side floor centre t c n o (x, v, f, a, q)
  unfolding ratios_number
  lowest r m b l k e e' b' l' k' = rw (e, e', b', l', k')

  -- not refused: no number is
  pub none : ratios_number D p P side floor centre t c n o (x, v, f, a, q) ≡ 0 →
      (lower_number ≡ 0) × (lengths_number_lem ≡ 0) × (floor_number floor ≡ 0)
  unfolding ratios_number
  none z =
      let last = or_none (lower lower_number lengths_number_lem) (floor_number floor) z in
      let both = lower_none lower_number lengths_number_lem last.0 in
      (both.0, both.1, last.1)

  -- the coefficients as they are left, and the air told from them
  abbrev after : Below → (ℕ → Air) → Memory
  after m air = (m.0, m.1, m.3, answers_of P air, ratios_of P air q)

  told_right : (N k : ℕ) (x' v' f' : List Float) (a' : List ℕ) (q' : List Float) → N ≡ p ^ D →
      (k, (x', v', [], f', [])) ≡ below D p P side floor centre t c n o x v f → (a', q') ≡ told_of P (air_at N P floor v' c n o) q →
      (x', v', f', a', q') ≡ told D p P side floor centre t c n o (x, v, f, a, q)
  unfolding told
  told_right N k x' v' f' a' q' nodes made said =
      ap (λ (s : List ℕ × List Float). (x', v', f', s.0, s.1)) (rw nodes at said)
      ∙ ap (λ (m : Below). after m (air_at (p ^ D) P floor m.1 c n o)) (ap (λ (m : ℕ × Below). m.1) made)

  module _ (r : ℕ) (e : r ≡ ratios_number D p P side floor centre t c n o (x, v, f, a, q)) where
    pub ratios_refused : (r ≡ 0 → ⊥) → (r, (x, v, f, a, q)) ≡ ratios_call D p P side floor centre t c n o (x, v, f, a, q)
    unfolding ratios_call
    ratios_refused = call_refused r _ (told D p P side floor centre t c n o (x, v, f, a, q)) (x, v, f, a, q) e

    module _ (z : r ≡ 0) where
      pub shape : Shape D p
      unfolding coefficients_call
      shape = (before_taken D p P side centre x _ (none (sym e ∙ z)).0).0

      -- what the call for coefficients takes: few points, and values for all nodes at all points
      values_long : (P ≤ most_points) × (length v ≡ p ^ D * P)
      unfolding coefficients_call coefficient_fit
      values_long =
          let h = before_taken D p P side centre x _ (none (sym e ∙ z)).0 in
          let points = equal_and (length x) (D * P) _ h.2 in
          let axes = equal_and (length centre) D _ points.1 in
          let polynomials = equal_and (length t) (p * p) _ axes.1 in
          (h.1, (equal_and (length v) (p ^ D * P) _ polynomials.1).0)

      pub evaluated : (N : ℕ) (v' : List Float) → N ≡ p ^ D → length v' ≡ length v →
          Evaluated N P v' c n o × (length a ≡ P) × (length q ≡ P)
      unfolding lengths_number lengths_fit
      evaluated N v' nodes long =
          let fit = (passed (lengths_fit (p ^ D) P c n o a q) 6 _ (none (sym e ∙ z)).1).0 in
          let one = equal_and (length c) (p ^ D) _ fit in
          let two = equal_and (length n) (p ^ D) _ one.1 in
          let three = equal_and (length o) (p ^ D) _ two.1 in
          let four = equal_and (length a) P _ three.1 in (
            record {
              nodes = rw nodes (power_most p D shape.order_most shape.dimension_most);
              few = values_long.0;
              values = rw nodes (long ∙ values_long.1);
              carbon_monoxide = rw nodes one.0;
              nitrogen = rw nodes two.0;
              oxygen = rw nodes three.0;
            },
            four.0,
            eqb-true _ _ four.1,
          )

      -- done
      pub ratios_done : (N k : ℕ) (x' v' f' : List Float) (a' : List ℕ) (q' : List Float) → N ≡ p ^ D →
          (k, (x', v', [], f', [])) ≡ below D p P side floor centre t c n o x v f →
          (a', q') ≡ told_of P (air_at N P floor v' c n o) q →
          (0, (x', v', f', a', q')) ≡ ratios_call D p P side floor centre t c n o (x, v, f, a, q)
      unfolding ratios_call
      ratios_done N k x' v' f' a' q' nodes made said =
          call_done r _ (told D p P side floor centre t c n o (x, v, f, a, q)) (x, v, f, a, q) e (x', v', f', a', q') z
          (told_right N k x' v' f' a' q' nodes made said)
