-- Curvatures: the second derivatives of what each node of a cell counts for at each point, for every pair of axes; and what the call
-- leaves.
use Rattle.std.specs.Prelude.{Bool, cond, ◌&&◌, ◌||◌, List, [], ◌++◌, ℕ, zero, suc, ◌+◌, ◌-◌, ◌*◌, ◌/◌, ◌%◌, ◌^◌, leb, eqb, Float, length, get_or}
use Rattle.common.specs.Digits.{digit}
use Rattle.common.specs.Floats.{times}
use Rattle.common.specs.Lists.{tabulate}
use Rattle.common.specs.Matrices.{matrix, column_major}
use Rattle.common.specs.Refusals.{no_dimension, no_order, no_count, wrong_length, no_cell, not_finite}
use Rattle.common.specs.Refusals.{unless, is_dimension, is_order, is_cell, most_points, left}
use Rattle.coordinates.specs.Coordinates.{all_finite}
use Rattle.axes.specs.Axes.{S, S', on_axes}
use Rattle.bends.specs.Bends.{S'', room_of}
use Rattle.curvatures.specs.declared.Lengths.{Lengths}
use Rattle.curvatures.specs.declared.pairs.Pair.{Pair}

-- PAIRS of axes g <= h, in lexicographic order: for each g in turn, h from g on. Of those from axis g on, where n axes are left; and all
unfoldable pub pairs_from : (g n : ℕ) → List Pair
pairs_from g zero = []
pairs_from g (suc n) = tabulate (suc n) (λ k. record { first = g; second = g + k }) ++ pairs_from (suc g) n

unfoldable pub pair_at : (D q : ℕ) → Pair
pair_at D q = get_or (pairs_from 0 D) q (record { first = 0; second = 0 })

abbrev pub pair_count : (D : ℕ) → ℕ
pair_count D = D * (D + 1) / 2

-- a start times f 0, times f 1, .. times f (n - 1), with f g and f h left out
unfoldable pub besides : (g h : ℕ) → (start : Float) → (n : ℕ) → (ℕ → Float) → Float
besides g h v zero f = v
besides g h v (suc n) f = cond (eqb n g || eqb n h) (besides g h v n f) (times (besides g h v n f) (f n))

-- AT REFERENCE COORDINATES: x i a is that of point i on axis a

module _ (D p : ℕ) (side : Float) (polynomials : List Float) (x : (i a : ℕ) → Float) where
  -- S, S' or S'' of point i on axis a, at the index there of the node with number k
  abbrev pub at_node : (f : (n : ℕ) → Float → Float) → (i k a : ℕ) → Float
  at_node f i k a = f (digit p D a k) (x i a)

  -- where the column of a pair starts: with S'' of its one axis, or with S' of both, in axis order
  abbrev pub start : (i k g h : ℕ) → Float
  start i k g h =
      cond (eqb g h) (at_node (S'' p side polynomials) i k g)
      (times (at_node (S' p side polynomials) i k g) (at_node (S' p side polynomials) i k h))

  -- then come the remaining axes in order; pair q has the columns q*N + k
  unfoldable pub curvature : (i column : ℕ) → Float
  curvature i c =
      let pair = pair_at D (c / p ^ D) in
      let k = c % p ^ D in
      besides pair.first pair.second (start i k pair.first pair.second) D (at_node (S p polynomials) i k)

-- the memory that is lent to be written: curvatures, factors, slopes, bends, room
abbrev pub Memory : Type 0
Memory = List Float × List Float × List Float × List Float × List Float

-- What a call that is not refused leaves at coordinates x i a: matrices of one row a point. All but the first are room to work in; they
-- end as S, S' and S'' of all axes, and the last as T, T' and T'' of the last axis.
unfoldable pub leaves : (D p P : ℕ) → (side : Float) → (polynomials : List Float) → (x : (i a : ℕ) → Float) → Memory
leaves D p P side t x = (
  column_major P (pair_count D * p ^ D) (curvature D p side t x),
  column_major P (D * p) (on_axes (S p t) p x),
  column_major P (D * p) (on_axes (S' p side t) p x),
  column_major P (D * p) (on_axes (S'' p side t) p x),
  room_of p P (λ i. x i (D - 1)),
)

-- THE CALL

-- how long the lent buffers must be, and how long they are
abbrev pub lengths_of : (D p P : ℕ) → Lengths
lengths_of D p P =
    record {
      coordinates = D * P;
      polynomials = p * p;
      curvatures = pair_count D * p ^ D * P;
      factors = D * p * P;
      slopes = D * p * P;
      bends = D * p * P;
      room = 3 * p * P;
    }

abbrev pub lengths : (polynomials coordinates : List Float) → Memory → Lengths
lengths t x (c, f, d, b, r) =
    record {
      coordinates = length x;
      polynomials = length t;
      curvatures = length c;
      factors = length f;
      slopes = length d;
      bends = length b;
      room = length r;
    }

unfoldable pub alike : (lent wanted : Lengths) → Bool
alike l w =
    eqb l.coordinates w.coordinates && (eqb l.polynomials w.polynomials && (eqb l.curvatures w.curvatures &&
    (eqb l.factors w.factors && (eqb l.slopes w.slopes && (eqb l.bends w.bends && eqb l.room w.room)))))

-- a coordinate outside the cell is taken, and one that is not finite is not
unfoldable pub curvature_number : (D p P : ℕ) → (side : Float) → (coordinates : List Float) → Lengths → ℕ
curvature_number D p P side x lent =
    unless (is_dimension D) no_dimension
    (unless (is_order p) no_order
    (unless (leb P most_points) no_count
    (unless (alike lent (lengths_of D p P)) wrong_length (unless (is_cell side) no_cell (unless (all_finite x) not_finite 0)))))

unfoldable pub curvature_call : (D p P : ℕ) → (side : Float) → (polynomials coordinates : List Float) → Memory → ℕ × Memory
curvature_call D p P side t x m =
    let n = curvature_number D p P side x (lengths t x m) in
    (n, left n (leaves D p P side t (matrix P x)) m)
