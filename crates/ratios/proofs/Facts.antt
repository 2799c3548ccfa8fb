-- What the call promises, as specs/Facts.antt states it, of every call that is done. Assumes nothing.
use mathlib.Core.Path.{◌≡◌, sym, ap, ◌∙◌}
use mathlib.Core.Bool.{true, false, and-eq-true_iff}
use mathlib.Core.List.{List}
use mathlib.Core.Logic.{◌⊎◌, inl, inr}
use Prim.Native.Nat.{ℕ, ◌^◌, ◌<◌}
use lib.Ieee.{Float, nan, lt, le}
use lib.Ieee.Scale.{finite}
use lib.ListN.{get_or}
use Rattle.common.specs.Floats.{zero₆₄, times}
use Rattle.common.specs.Matrices.{matrix, column_major}
use Rattle.common.proofs.Fill.{get_d_tabulate}
use Rattle.common.proofs.Limits.{passed, left_done}
use Rattle.common.proofs.Matrices.{column_entry}
use Rattle.common.proofs.Orders.{at_least}
use Rattle.common.proofs.Sums.{sums_cong}
use Rattle.coordinates.specs.Coordinates.{coordinate}
use Rattle.coefficients.specs.Coefficients.{value}
use Rattle.coefficients.specs.Before.{Memory as Below, leaves as coefficients_left, coefficients_call}
use Rattle.airs.specs.Airs.{ratio, number_of, ratio_or}
use Rattle.fields.specs.Fields.{field, air_at, answers_of, ratios_of}
use Rattle.ratios.specs.Ratios.{is_floor, floor_number, Memory, below}
use Rattle.ratios.specs.Ratios.{ratios_number, told, ratios_call}
use Rattle.ratios.specs.Facts.{Done, FloorIsRight, answer, shown, RatioIsRight, UnusableIsRight, FreshIsRight, OneOfThree}
use Rattle.ratios.specs.Facts.{NothingBelowFloor, GasIsProduct}
use Rattle.airs.specs.declared.Air.{Air}
use Rattle.airs.proofs.Airs.{said_ratio, said_unusable, said_fresh, said_below, said_three}
use Rattle.ratios.proofs.Calls.{none}

module _ (D p P : ℕ) (side floor : Float) (centre t c n o x v f : List Float) (a : List ℕ) (q : List Float) (leaves : Memory)
    (done : Done D p P side floor centre t c n o x v f a q leaves) where
  -- it was not refused, and what it leaves is what is told
  number : ratios_number D p P side floor centre t c n o (x, v, f, a, q) ≡ 0
  unfolding ratios_call
  number = sym (ap (λ (r : ℕ × Memory). r.0) done)

  left_told : leaves ≡ told D p P side floor centre t c n o (x, v, f, a, q)
  unfolding ratios_call
  left_told = ap (λ (r : ℕ × Memory). r.1) done ∙ left_done _ (told D p P side floor centre t c n o (x, v, f, a, q)) (x, v, f, a, q) number

  floor_right : (lt zero₆₄ floor ≡ true) × (finite floor ≡ true)
  unfolding floor_number is_floor
  floor_right =
      let last = (none D p P side floor centre t c n o x v f a q number).2 in
      (and-eq-true_iff (lt zero₆₄ floor) (finite floor)).0 (passed (is_floor floor) 11 0 last).0

  -- the air at a point, from the values that are left
  module _ (i : ℕ) (l : i < P) where
    abbrev air : Air
    air = air_at (p ^ D) P floor leaves.1 c n o i

    made_values : leaves.1 ≡ (below D p P side floor centre t c n o x v f).1.1
    unfolding told
    made_values = ap (λ (m : Memory). m.1) left_told

    -- the same, from the values as the call below makes them
    abbrev made : (k : ℕ) → Air
    made = air_at (p ^ D) P floor (below D p P side floor centre t c n o x v f).1.1 c n o

    answer_is : answer D p P side floor centre t c n o x v f a q leaves i ≡ number_of air
    unfolding told answers_of
    answer_is =
        ap (λ (m : Memory). get_or m.3 i 0) left_told
        ∙ get_d_tabulate P (λ k. number_of (made k)) i 0 l
        ∙ ap (λ (u : List Float). number_of (air_at (p ^ D) P floor u c n o i)) (sym made_values)

    shown_is : shown D p P side floor centre t c n o x v f a q leaves i ≡ ratio_or air (get_or q i nan)
    unfolding told ratios_of
    shown_is =
        ap (λ (m : Memory). get_or m.4 i nan) left_told
        ∙ get_d_tabulate P (λ k. ratio_or (made k) (get_or q k nan)) i nan l
        ∙ ap (λ (u : List Float). ratio_or (air_at (p ^ D) P floor u c n o i) (get_or q i nan)) (sym made_values)

    -- the values that are left are document 01's coefficients
    values_are : (k : ℕ) → k < p ^ D → matrix P leaves.1 i k ≡ value D p t (coordinate P side centre x) i k
    unfolding coefficients_call coefficients_left
    values_are k m =
        let zero = (none D p P side floor centre t c n o x v f a q number).0 in
        let left : leaves.1 ≡ column_major P (p ^ D) (value D p t (coordinate P side centre x)) =
        made_values ∙ ap (λ (b : Below). b.1) (left_done _ (coefficients_left D p P side false t (coordinate P side centre x)) _ zero) in
        rw left (column_entry P (value D p t (coordinate P side centre x)) (p ^ D) i k nan l m)

-- a finite deficiency that is not below the floor is at least the floor
either : (floor d r : Float) → finite floor ≡ true → (finite d ≡ false) ⊎ ((finite d ≡ true) × (lt d floor ≡ false) × (finite r ≡ false)) →
    (finite d ≡ false) ⊎ ((le floor d ≡ true) × (finite r ≡ false))
either floor d r h (inl e) = inl e
either floor d r h (inr e) = inr (at_least d floor e.0 h e.1, e.2)

-- THE PROMISES

module _ (D p P : ℕ) (side floor : Float) (centre t c n o x v f : List Float) (a : List ℕ) (q : List Float) (leaves : Memory) where
  pub floor_is_right : FloorIsRight D p P side floor centre t c n o x v f a q leaves
  floor_is_right done = floor_right D p P side floor centre t c n o x v f a q leaves done

  module _ (i : ℕ) where
    pub ratio_is_right : RatioIsRight D p P side floor centre t c n o x v f a q leaves i
    ratio_is_right done l z =
        let is = answer_is D p P side floor centre t c n o x v f a q leaves done i l in
        let said = said_ratio floor _ _ _ (sym is ∙ z) in
        let here = shown_is D p P side floor centre t c n o x v f a q leaves done i l ∙ said.3 (get_or q i nan) in (
          said.0,
          at_least _ floor said.0 (floor_is_right done).1 said.1,
          ap finite here ∙ said.2,
          here,
        )

    pub unusable_is_right : UnusableIsRight D p P side floor centre t c n o x v f a q leaves i
    unusable_is_right done l z =
        let is = answer_is D p P side floor centre t c n o x v f a q leaves done i l in
        let said = said_unusable floor _ _ _ (sym is ∙ z) in (
          either floor _ (ratio (field (p ^ D) P leaves.1 c i) _) (floor_is_right done).1 said.0,
          shown_is D p P side floor centre t c n o x v f a q leaves done i l ∙ said.1 (get_or q i nan),
        )

    pub fresh_is_right : FreshIsRight D p P side floor centre t c n o x v f a q leaves i
    fresh_is_right done l z =
        let is = answer_is D p P side floor centre t c n o x v f a q leaves done i l in
        let said = said_fresh floor _ _ _ (sym is ∙ z) in
        (said.0, said.1, shown_is D p P side floor centre t c n o x v f a q leaves done i l ∙ said.2 (get_or q i nan))

    pub one_of_three : OneOfThree D p P side floor centre t c n o x v f a q leaves i
    one_of_three done l = rw (answer_is D p P side floor centre t c n o x v f a q leaves done i l) (said_three _)

    pub nothing_below_floor : NothingBelowFloor D p P side floor centre t c n o x v f a q leaves i
    nothing_below_floor done l h =
        let is = answer_is D p P side floor centre t c n o x v f a q leaves done i l in
        let said = said_below floor _ _ _ h in
        (λ z. said.0 (sym is ∙ z), shown_is D p P side floor centre t c n o x v f a q leaves done i l ∙ said.1 (get_or q i nan))

    pub gas_is_product : GasIsProduct D p P side floor centre t c n o x v f a q leaves i
    unfolding field
    gas_is_product done l expansion =
        sums_cong (p ^ D) _ _ (λ k m. ap (λ (y : Float). times y (get_or expansion k nan))
        (values_are D p P side floor centre t c n o x v f a q leaves done i l k m))
