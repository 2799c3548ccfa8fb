-- The contracts of this crate determine what each buffer holds after a column. Assumes nothing.
use mathlib.Core.Path.{◌≡◌}
use mathlib.Core.List.{List}
use Prim.Native.Nat.{ℕ}
use lib.Ieee.{Float}
use Rattle.common.specs.Lists.{stretch}
use Rattle.common.proofs.Determined.{coincide}
use Rattle.polynomial_columns.specs.Working.{column_T, column_T', column_T''}

module _ (j rows at : ℕ) (points tn v v' : List Float) where
  abbrev values : List Float
  values = stretch at rows (column_T j rows points tn at) tn

  polynomial_column_determined : v ≡ values → v' ≡ values → v ≡ v'
  polynomial_column_determined = coincide v v' values

  module _ (dtn d d' : List Float) where
    abbrev slopes : List Float
    slopes = stretch at rows (column_T' j rows points tn dtn at) dtn

    both_columns_determined : (v ≡ values) × (d ≡ slopes) → (v' ≡ values) × (d' ≡ slopes) → (v ≡ v') × (d ≡ d')
    both_columns_determined h h' = (coincide v v' values h.0 h'.0, coincide d d' slopes h.1 h'.1)

    module _ (ddtn s s' : List Float) where
      abbrev bends : List Float
      bends = stretch at rows (column_T'' j rows points dtn ddtn at) ddtn

      three_columns_determined : (v ≡ values) × (d ≡ slopes) × (s ≡ bends) → (v' ≡ values) × (d' ≡ slopes) × (s' ≡ bends) →
          (v ≡ v') × (d ≡ d') × (s ≡ s')
      three_columns_determined h h' = (
        coincide v v' values h.0 h'.0,
        coincide d d' slopes h.1 h'.1,
        coincide s s' bends h.2 h'.2,
      )
