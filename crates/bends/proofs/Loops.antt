-- A loop over axes fills each buffer stretch by stretch, and leaves the room as the last axis's: what each turn adds. Assumes nothing.
use mathlib.Core.Path.{◌≡◌, refl, ◌∙◌}
use mathlib.Core.List.{List}
use Prim.Native.Nat.{ℕ, zero, suc, ◌+◌, ◌-◌, ◌*◌, ◌<◌, ◌≤◌}
use native.Mathlib.Nat.{zero-add, mul_assoc}
use native.Mathlib.Numerals.{add-one}
use native.Mathlib.Omega.{arith}
use lib.Ieee.{Float, nan}
use lib.ListN.{length, get_or}
use Rattle.common.specs.Matrices.{cell, matrix, column_major}
use Rattle.common.proofs.Fill.{part_read}
use Rattle.common.proofs.Matrices.{column_cong, columns_filled}
use Rattle.common.proofs.Steps.{Stepping, stepping_more, stepping_done}
use Rattle.polynomial_columns.specs.Recurrence.{T, T', T''}
use Rattle.axes.proofs.Stretches.{stepping_first, stepping_next, part, axes_at, axis_block}
use Rattle.bends.specs.Bends.{room_of}
use Rattle.bends.specs.Working.{columns_at, room_after}

-- ONE BUFFER: S, S' or S''

module _ (t : ℕ → Float → Float) (D p P : ℕ) (points before : List Float) where
  abbrev pub AxesDone : (now : List Float) → (axis at : ℕ) → Type 0
  AxesDone now axis at = Stepping 0 D (p * P) (cell P (axes_at t p P points)) before now axis at

  pub axis_first : AxesDone before 0 (0 + 0 * (p * P))
  axis_first = stepping_first 0 D (p * P) (cell P (axes_at t p P points)) before

  module _ (long : length before ≡ D * p * P) where
    pub axis_more : (now after : List Float) (axis : ℕ) → AxesDone now axis (0 + axis * (p * P)) → axis < D →
        after ≡ columns_at (axis * (p * P)) p P t (part points (axis * P) P) now → AxesDone after (axis + 1) (0 + (axis + 1) * (p * P))
    axis_more now after axis h l f =
        stepping_next 0 D (p * P) (cell P (axes_at t p P points)) before after _ axis
        (stepping_more 0 D (p * P) (cell P (axes_at t p P points)) before now after axis _ _ h l (rw (long, mul_assoc) (omega arith))
        (axis_block t p P points axis (axis * P) refl) (rw (← zero-add (axis * (p * P))) at f))

    pub axes_done : (now : List Float) (axis at : ℕ) → AxesDone now axis at → D ≤ axis → now ≡ column_major P (D * p) (axes_at t p P points)
    axes_done now axis at h l =
        rw (← mul_assoc) at (stepping_done 0 D (p * P) (cell P (axes_at t p P points)) before now axis at h l)
        ∙ columns_filled P (axes_at t p P points) (D * p) before long

-- THE ROOM

room_cong : (p P : ℕ) (x y : ℕ → Float) → ((i : ℕ) → i < P → x i ≡ y i) → room_of p P x ≡ room_of p P y
unfolding room_of
room_cong p P x y same =
    rw (
      column_cong P (λ i j. T j (x i)) p (λ i j. T j (y i)) (λ i j h _. rw (same i h)),
      column_cong P (λ i j. T' j (x i)) p (λ i j. T' j (y i)) (λ i j h _. rw (same i h)),
      column_cong P (λ i j. T'' j (x i)) p (λ i j. T'' j (y i)) (λ i j h _. rw (same i h)),
    )

pub room_more : (p P : ℕ) (points before after : List Float) (axis from : ℕ) → from ≡ axis * P →
    after ≡ room_of p P (λ i. get_or (part points from P) i nan) → after ≡ room_after (axis + 1) p P points before
unfolding room_after
room_more p P points before after axis from e f =
    f ∙ rw (add-one axis) (room_cong p P _ (λ i. matrix P points i axis)
    (λ i h. part_read from _ P points i nan refl h ∙ rw e))

pub room_done : (D p P : ℕ) (points before now : List Float) (axis : ℕ) → 1 ≤ D → axis ≡ D → now ≡ room_after axis p P points before →
    now ≡ room_of p P (λ i. matrix P points i (D - 1))
unfolding room_after
room_done zero p P points before now axis some e f = absurd (omega arith)
room_done (suc a) p P points before now axis some e f =
    let last : suc a - 1 ≡ a = omega arith in
    rw last (rw e at f)
