-- Demand 3 for floats, of the mirror-exact nodes: for every dimension, order, far vector and cell's side. Assumes nothing.
use mathlib.Core.Path.{◌≡◌, refl, sym}
use mathlib.Core.Bool.{true}
use Prim.Native.Nat.{ℕ, ◌^◌, ◌<◌, ◌≤◌}
use lib.IntN.{ℤ, pos}
use lib.Ieee.{Float}
use Rattle.common.specs.Digits.{digit}
use Rattle.common.specs.Refusals.{is_cell}
use Rattle.common.proofs.Digits.{digit_below}
use Rattle.floats.specs.Signs.{magnitude}
use Rattle.floats.proofs.Opposites.{opposite_magnitude}
use Rattle.vectors.specs.Order.{sorted, axis_order}
use Rattle.vectors.specs.Vectors.{sizes, case, entry, reference}
use Rattle.vectors.proofs.Orders.{axis_below, axis_order_below}
use Rattle.turn_tables.specs.Turned.{turned}
use Rattle.turn.specs.Turns.{Far, matching}
use Rattle.turn.proofs.Right.{size_turned}
use Rattle.turn.proofs.References.{reference_entry}
use Rattle.nodes.specs.Sets.{mirrored}
use Rattle.mirror.specs.FloatTurns.{difference, FloatTurns}
use Rattle.mirror.proofs.Opposites.{mirrored_opposite, difference_opposite}
use Rattle.mirror.proofs.Reach.{node_most, difference_most, same_size}

-- THE MAGNITUDES, for every vector, near or far, and every side: those of differences are a size that the turn keeps
magnitudes_turned : (D p : ℕ) (side : Float) (v : ℕ → ℤ) (s t m : ℕ) → 0 < p → m < D →
    magnitude (difference side (pos (sorted D (sizes v) m)) (mirrored p (digit p D m s)) (mirrored p (digit p D m t)))
    ≡ magnitude (difference side (v (matching D v m))
    (mirrored p (digit p D (matching D v m) (turned D p (case D v) s)))
    (mirrored p (digit p D (matching D v m) (turned D p (case D v) t))))
magnitudes_turned D p side v =
    size_turned p (mirrored p) (λ e a b. magnitude (difference side e a b))
    (λ n i j li lj. sym (opposite_magnitude (difference_opposite side n (mirrored_opposite p i li) (mirrored_opposite p j lj)))) D v

-- every vector with entries from -3 to 3, near or far: the block of its sorted sizes is turned onto it by its case's table
pub float_turns : (D p : ℕ) (side : Float) (v : ℕ → ℤ) → 1 ≤ p → p ≤ 16 → is_cell side ≡ true → ((a : ℕ) → a < D → sizes v a ≤ 3) →
    FloatTurns D p side (mirrored p) (λ m. pos (sorted D (sizes v) m)) v (turned D p (case D v))
unfolding sorted
float_turns D p side v o u c small =
    let most : (a n : ℕ) → _ = λ a n. node_most p (digit p D a n) u (digit_below p D a n o) in
    record {
      differences = λ s t m _ _ l.
          let a = matching D v m in
          let three : sizes v a ≤ 3 = small a (axis_below D (axis_order D (sizes v)) m (axis_order_below D (sizes v)) l) in
          same_size side _ _ _ _ _ _
          (difference_most side _ _ _ c three (most m s) (most m t))
          (difference_most side _ _ _ c three (most a (turned D p (case D v) s)) (most a (turned D p (case D v) t)))
          (magnitudes_turned D p side v s t m o l);
    }

-- the same for blocks and tables that agree with these
pub float_turns_alike : (D p : ℕ) (side : Float) (x : ℕ → Float) (r r' v : ℕ → ℤ) (f t : ℕ → ℕ) → ((m : ℕ) → m < D → r' m ≡ r m) →
    ((n : ℕ) → n < p ^ D → t n ≡ f n) → FloatTurns D p side x r v f → FloatTurns D p side x r' v t
float_turns_alike D p side x r r' v f t er et w =
    record { differences = λ a b m la lb l. rw (er m l, et a la, et b lb) (w.differences a b m la lb l) }

-- THE THEOREM: p from 1 to 16, a cell's side, a far vector and its reference
module _ (D p : ℕ) (side : Float) (v : ℕ → ℤ) (o : 1 ≤ p) (u : p ≤ 16) (c : is_cell side ≡ true) (far : Far D (sizes v)) where
  pub float_turn_is_right : FloatTurns D p side (mirrored p) (λ m. pos (entry D (reference D v) m)) v (turned D p (case D v))
  float_turn_is_right =
      float_turns_alike D p side (mirrored p) (λ m. pos (sorted D (sizes v) m)) _ v (turned D p (case D v)) _
      (λ m l. rw (reference_entry D v far m l)) (λ _ _. refl) (float_turns D p side v o u c far.within)
