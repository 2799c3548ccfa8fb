-- The points become reference coordinates axis by axis, in place: what each axis adds. Assumes nothing.
use mathlib.Core.Path.{◌≡◌, refl, sym, ◌∙◌}
use mathlib.Core.List.{List}
use Prim.Native.Nat.{ℕ, ◌+◌, ◌*◌, ◌<◌}
use native.Mathlib.Nat.{zero-add}
use native.Mathlib.Omega.{arith}
use lib.Ieee.{Float, nan}
use lib.ListN.{length, get_or}
use Rattle.common.specs.Lists.{stretch}
use Rattle.common.specs.Matrices.{cell}
use Rattle.common.proofs.Fill.{fill_after}
use Rattle.common.proofs.Matrices.{column_fits, cell_at}
use Rattle.common.proofs.Steps.{Stepping, stepping_more}
use Rattle.coordinates.specs.Coordinates.{coordinate_in, coordinate}

module _ (D P : ℕ) (l : Float) (centre before : List Float) where
  pub axis_more : length before ≡ D * P → (now next : List Float) (axis at : ℕ) →
      Stepping 0 D P (cell P (coordinate P l centre before)) before now axis at → axis < D →
      next ≡ stretch at P (λ i. coordinate_in l (get_or centre axis nan) (get_or now (at + i) nan)) now →
      Stepping 0 D P (cell P (coordinate P l centre before)) before next (axis + 1) (at + P)
  axis_more whole now next axis at h m e =
      let place : at ≡ axis * P = h.place ∙ zero-add (axis * P) in
      let fits = column_fits axis D P (axis * P) m refl in
      let here : (i : ℕ) → get_or now (at + i) nan ≡ get_or before (axis * P + i) nan =
      λ i. rw (place, h.made) (fill_after (axis * P) (cell P (coordinate P l centre before)) before i nan (omega arith)) in
      stepping_more 0 D P (cell P (coordinate P l centre before)) before now next axis at _ h m (omega arith)
      (λ i b. rw (here i) (sym (cell_at P (coordinate P l centre before) i axis b))) e
