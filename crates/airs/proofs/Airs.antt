-- What is said of the air at a point, by the tests that lead to it; and what that says of the tests. Assumes nothing.
use mathlib.Core.Path.{◌≡◌, refl}
use mathlib.Core.Bool.{true, false}
use mathlib.Core.Logic.{◌⊎◌, inl, inr}
use Prim.Native.Nat.{◌<◌}
use native.Mathlib.Omega.{arith}
use lib.Ieee.{Float, lt}
use lib.Ieee.Scale.{finite}
use Rattle.common.proofs.Cases.{by_bool}
use Rattle.airs.specs.Airs.{deficiency, ratio, air_of, number_of, ratio_or}
use Rattle.airs.specs.declared.Air.{Air}
use Rattle.airs.specs.declared.Air.TheVariants.{Ratio, Unusable, Fresh}

module _ (floor c n o : Float) where
  pub no_deficiency : finite (deficiency n o) ≡ false → Unusable ≡ air_of floor c n o
  unfolding air_of
  no_deficiency e = rw e

  module _ (d : finite (deficiency n o) ≡ true) where
    pub below_floor : lt (deficiency n o) floor ≡ true → Fresh ≡ air_of floor c n o
    unfolding air_of
    below_floor l = rw (d, l)

    module _ (l : lt (deficiency n o) floor ≡ false) where
      pub no_ratio : finite (ratio c (deficiency n o)) ≡ false → Unusable ≡ air_of floor c n o
      unfolding air_of
      no_ratio e = rw (d, l, e)

      pub has_ratio : finite (ratio c (deficiency n o)) ≡ true → Ratio (ratio c (deficiency n o)) ≡ air_of floor c n o
      unfolding air_of
      has_ratio e = rw (d, l, e)

-- BACK from the number: what holds where it is said

module _ (floor c n o : Float) where
  abbrev d : Float
  d = deficiency n o

  abbrev r : Float
  r = ratio c d

  abbrev air : Air
  air = air_of floor c n o

  pub said_ratio : number_of air ≡ 0 →
      (finite d ≡ true) × (lt d floor ≡ false) × (finite r ≡ true) × ((other : Float) → ratio_or air other ≡ r)
  unfolding air_of number_of ratio_or
  said_ratio =
      by_bool (finite d)
      (λ e. rw e (by_bool (lt d floor) (λ l. rw l λ z. absurd (omega arith))
      (λ l. rw l (by_bool (finite r) (λ g. rw g λ z. (refl, refl, refl, λ x. refl)) (λ g. rw g λ z. absurd (omega arith))))))
      (λ e. rw e λ z. absurd (omega arith))

  pub said_unusable : number_of air ≡ 1 →
      ((finite d ≡ false) ⊎ ((finite d ≡ true) × (lt d floor ≡ false) × (finite r ≡ false))) × ((other : Float) → ratio_or air other ≡ other)
  unfolding air_of number_of ratio_or
  said_unusable =
      by_bool (finite d)
      (λ e. rw e (by_bool (lt d floor) (λ l. rw l λ z. absurd (omega arith))
      (λ l. rw l (by_bool (finite r) (λ g. rw g λ z. absurd (omega arith)) (λ g. rw g λ z. (inr (refl, refl, refl), λ x. refl))))))
      (λ e. rw e λ z. (inl refl, λ x. refl))

  pub said_fresh : number_of air ≡ 2 → (finite d ≡ true) × (lt d floor ≡ true) × ((other : Float) → ratio_or air other ≡ other)
  unfolding air_of number_of ratio_or
  said_fresh =
      by_bool (finite d)
      (λ e. rw e (by_bool (lt d floor) (λ l. rw l λ z. (refl, refl, λ x. refl))
      (λ l. rw l (by_bool (finite r) (λ g. rw g λ z. absurd (omega arith)) (λ g. rw g λ z. absurd (omega arith))))))
      (λ e. rw e λ z. absurd (omega arith))

  -- below the floor no ratio is said
  pub said_below : lt d floor ≡ true → (number_of air ≡ 0 → ⊥) × ((other : Float) → ratio_or air other ≡ other)
  unfolding air_of number_of ratio_or
  said_below l =
      rw l (by_bool (finite d) (λ e. rw e (λ z. omega arith, λ x. refl)) (λ e. rw e (λ z. omega arith, λ x. refl)))

pub said_three : (air : Air) → number_of air < 3
unfolding number_of
said_three (Ratio r) = omega arith
said_three Unusable = omega arith
said_three Fresh = omega arith
