-- What the number of a grid says: it decides first of what a call tests; and a grid's own numbers lie in their limits. Assumes nothing.
use mathlib.Core.Path.{◌≡◌, refl}
use Prim.Native.Nat.{ℕ, ◌≤◌}
use lib.Dec.{leb}
use Rattle.common.specs.Refusals.{no_dimension, no_order, no_count, unless, is_dimension, is_order, most_points}
use Rattle.common.proofs.Cases.{by_bool}
use Rattle.axes.specs.Axes.{grid_number}

-- a grid that is refused, whatever a call would test next
pub grid_out : (D p P rest : ℕ) → (grid_number D p P ≡ 0 → ⊥) → grid_number D p P
    ≡ unless (is_dimension D) no_dimension (unless (is_order p) no_order (unless (leb P most_points) no_count rest))
unfolding grid_number
grid_out D p P rest =
    by_bool (is_dimension D)
    (λ d. rw d (by_bool (is_order p)
    (λ o. rw o (by_bool (leb P most_points) (λ f. rw f λ z. absurd (z refl)) (λ f. rw f λ _. refl)))
    (λ o. rw o λ _. refl)))
    (λ d. rw d λ _. refl)
