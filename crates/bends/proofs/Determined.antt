-- The contract of this crate determines its results. Assumes nothing.
use mathlib.Core.Path.{◌≡◌}
use mathlib.Core.List.{List}
use Prim.Native.Nat.{ℕ, ◌-◌, ◌*◌}
use lib.Ieee.{Float}
use Rattle.common.specs.Matrices.{matrix, column_major}
use Rattle.common.proofs.Determined.{coincide}
use Rattle.axes.specs.Axes.{S, S', on_axes}
use Rattle.bends.specs.Bends.{S'', room_of}

module _ (D p P : ℕ) (side : Float) (t points : List Float) where
  -- what each buffer is left as
  abbrev Left : (room factors slopes bends : List Float) → Type 0
  Left r f d b =
      (r ≡ room_of p P (λ i. matrix P points i (D - 1))) × (f ≡ column_major P (D * p) (on_axes (S p t) p (matrix P points))) ×
      (d ≡ column_major P (D * p) (on_axes (S' p side t) p (matrix P points))) ×
      (b ≡ column_major P (D * p) (on_axes (S'' p side t) p (matrix P points)))

  fill_bent_axes_determined : (r f d b r' f' d' b' : List Float) → Left r f d b → Left r' f' d' b' →
      (r ≡ r') × (f ≡ f') × (d ≡ d') × (b ≡ b')
  fill_bent_axes_determined r f d b r' f' d' b' h h' =
      (coincide r r' _ h.0 h'.0, coincide f f' _ h.1 h'.1, coincide d d' _ h.2 h'.2, coincide b b' _ h.3 h'.3)
