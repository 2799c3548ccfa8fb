-- Demand 3 for floats, of the calls: for a far vector all five succeed, and what they answer and leave is right. Assumes nothing.
use mathlib.Core.Path.{◌≡◌, refl, sym, ◌∙◌}
use mathlib.Core.Bool.{true}
use mathlib.Core.List.{List}
use Prim.Native.Nat.{ℕ, ◌^◌, ◌*◌, ◌<◌, ◌≤◌}
use native.Mathlib.Omega.{arith}
use lib.ListN.{length}
use lib.Ieee.{Float, nan}
use borrow.Author.Tests.{lt-ltb}
use Rattle.common.specs.Digits.{digit}
use Rattle.common.specs.Lists.{tabulate}
use Rattle.common.specs.Matrices.{matrix}
use Rattle.common.specs.Refusals.{is_cell, Shape}
use Rattle.common.proofs.Answers.{answer_done}
use Rattle.common.proofs.Digits.{digit_below}
use Rattle.common.proofs.Fill.{length_tabulate, get_d_tabulate}
use Rattle.common.proofs.Limits.{shape_past, call_done}
use Rattle.common.proofs.Matrices.{column_entry}
use Rattle.vectors.specs.declared.Vector.{Vector}
use Rattle.vectors.specs.Order.{axis_order}
use Rattle.vectors.specs.Vectors.{sizes, case, references, reference}
use Rattle.vectors.specs.LookUps.{entries, look_up, look_up_number, known_of}
use Rattle.vectors.proofs.Orders.{axis_below, axis_order_below}
use Rattle.turn_tables.specs.Turned.{turned}
use Rattle.turn.specs.Turns.{matching}
use Rattle.turn.specs.TurnCalls.{FarVector}
use Rattle.turn_tables.proofs.Nodes.{turned_below}
use Rattle.turn.proofs.References.{reference_below}
use Rattle.turn.proofs.Right.{case_below}
use Rattle.turn.proofs.RightCalls.{look_up_taken, filled}
use Rattle.nodes.specs.Sets.{mirrored, set_call}
use Rattle.nodes.proofs.Calls.{nodes_taken}
use Rattle.nodes.proofs.SetCalls.{set_known}
use Rattle.point_columns.specs.Blocks.{node_on, points_of}
use Rattle.points.specs.Points.{target_point, source_point, sizes_number, source_number, target_call, source_call}
use Rattle.points.proofs.Calls.{sizes_none, target_sizes, target_done}
use Rattle.mirror.specs.FloatTurns.{difference}
use Rattle.mirror.specs.FloatTurnCalls.{Lent, FloatCallsAreRight}
use Rattle.mirror.proofs.FloatRight.{float_turn_is_right}

-- what the calls leave: the nodes, the points of both blocks
abbrev exact : (p : ℕ) → List Float
exact p = tabulate p (mirrored p)

abbrev targets_of : (D p : ℕ) → (side : Float) → List Float
targets_of D p side = points_of D p (target_point D p side (exact p))

abbrev sources_of : (D p : ℕ) → (side : Float) → (i : ℕ) → List Float
sources_of D p side i = points_of D p (source_point D p side i (exact p))

-- THE NUMBERS: each call gives 0

module _ (D p : ℕ) (side : Float) (ok : Shape D p) (c : is_cell side ≡ true) where
  node_set : (nodes : List Float) → length nodes ≡ p → set_call p 1 nodes ≡ (0, exact p)
  node_set nodes e =
      sym (set_known p 1 nodes (exact p) (nodes_taken p (length nodes) ok.order_least ok.order_most e) (omega arith) refl)

  sizes_taken : (points : List Float) → length points ≡ D * p ^ D → 0 ≡ sizes_number D p side (length (exact p)) (length points)
  sizes_taken points e = sizes_none D p side (length (exact p)) (length points) (length_tabulate p (mirrored p)) e c

  target_points : (points : List Float) → length points ≡ D * p ^ D → target_call D p side (exact p) points ≡ (0, targets_of D p side)
  target_points points e =
      sym (target_done D p side (exact p) points 0 (sizes_taken points e ∙ target_sizes D p side _ _ ok) (targets_of D p side) refl refl)

  source_points : (i : ℕ) → i < length (references D) → (points : List Float) → length points ≡ D * p ^ D →
      source_call D p side i (exact p) points ≡ (0, sources_of D p side i)
  unfolding source_call source_number
  source_points i b points e =
      sym (call_done 0 _ (sources_of D p side i) points
      (rw (shape_past D p _ ok, lt-ltb i (length (references D)) b) (sizes_taken points e)) (sources_of D p side i) refl refl)

-- THE POINTS in memory, and the nodes that they are made of

module _ (D p : ℕ) (side : Float) where
  node_at : (a n : ℕ) → 1 ≤ p → node_on D p a (exact p) n ≡ mirrored p (digit p D a n)
  node_at a n o = get_d_tabulate p (mirrored p) (digit p D a n) nan (digit_below p D a n o)

  target_at : (n a : ℕ) → n < p ^ D → a < D → matrix (p ^ D) (targets_of D p side) n a ≡ target_point D p side (exact p) n a
  target_at n a h l = column_entry (p ^ D) (target_point D p side (exact p)) D n a nan h l

  source_at : (i n a : ℕ) → n < p ^ D → a < D → matrix (p ^ D) (sources_of D p side i) n a ≡ source_point D p side i (exact p) n a
  source_at i n a h l = column_entry (p ^ D) (source_point D p side i (exact p)) D n a nan h l

-- THE THEOREM: D from 1 to 3, p from 1 to 16, a cell's side, a far vector with zeros past D, lists of the right lengths
module _ (D p : ℕ) (side : Float) (v : Vector) (nodes targets sources : List Float) (table : List ℕ) (ok : Shape D p)
    (c : is_cell side ≡ true) (w : FarVector D v) (lent : Lent D p nodes targets sources table) where
  pub float_calls_are_right : FloatCallsAreRight D p side v nodes targets sources table
  unfolding look_up known_of difference
  float_calls_are_right =
      let e = entries v in
      let k = case D e in
      let i = reference D e in
      let o = ok.order_least in
      let f = turned D p k in
      record {
        known = known_of D e;
        looked_up = sym (answer_done (look_up_number D (sizes e)) (known_of D e) _ (look_up_taken D p ok v w) refl);
        exact = exact p;
        generated = node_set D p side ok c nodes lent.nodes_fit;
        target = targets_of D p side;
        targeted = target_points D p side ok c targets lent.targets_fit;
        source = sources_of D p side i;
        sourced = source_points D p side ok c i (reference_below D e w.far) sources lent.sources_fit;
        filled = tabulate (p ^ D) f;
        combined = filled D p ok k _ table (case_below D e) lent.table_fits;
        right = λ s t m ls lt l.
            let a = matching D e m in
            let la : a < D = axis_below D (axis_order D (sizes e)) m (axis_order_below D (sizes e)) l in
            rw (get_d_tabulate (p ^ D) f s 0 ls, get_d_tabulate (p ^ D) f t 0 lt)
            (rw (source_at D p side i s m ls l, target_at D p side t m lt l, target_at D p side (f t) a (turned_below D p k o t) la)
            (rw (node_at D p side m s o, node_at D p side m t o, node_at D p side a (f s) o, node_at D p side a (f t) o)
            ((float_turn_is_right D p side e o ok.order_most c w.far).differences s t m ls lt l)));
      }
