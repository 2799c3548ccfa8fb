-- The public contracts determine the number and all lent memory: two outcomes that one allows for an input coincide. Assumes nothing.
use mathlib.Core.Path.{◌≡◌}
use mathlib.Core.Bool.{Bool}
use mathlib.Core.List.{List}
use Prim.Native.Nat.{ℕ}
use lib.Ieee.{Float}
use lib.IntN.{ℤ}
use Rattle.common.proofs.Determined.{coincide}
use Rattle.vectors.specs.declared.Vector.{Vector}
use Rattle.turn_tables.specs.Turned.{turned, returned}
use Rattle.turn.specs.Tables.{table_call}
use Rattle.nodes.specs.Nodes.{nodes_call}
use Rattle.nodes.specs.Sets.{set_call}
use Rattle.chebyshev.specs.Polynomials.{polynomials_call}
use Rattle.chebyshev.specs.Second as second
use Rattle.operators.specs.Operators.{operators_call}
use Rattle.transfer.specs.Tensor.{transfer_call}
use Rattle.points.specs.Points.{target_call, source_call}
use Rattle.roots.specs.Values.{SquareRoot}
use Rattle.roots.proofs.Determined.{square_root_determined}
use Rattle.distances.specs.Distances as distances
use Rattle.coordinates.specs.Scaling.{scale_call}
use Rattle.coefficients.specs.Coefficients as coefficients
use Rattle.coefficients.specs.Pair.{wanted_of}
use Rattle.curvatures.specs.Curvatures as curvatures
use Rattle.ratios.specs.Ratios as ratios
use Rattle.aca_steps.specs.Memories.{Memory}
use Rattle.turn_told.specs.Told.{look_up_told, follow_told, reference_told}
use Rattle.choices_told.specs.Told.{argmax_told, cutoff_told}
use Rattle.aca_told.specs.Told.{Crossed, cross_told}
use Rattle.exchange_told.specs.Exchanged.{size_told, read_told, write_told}

-- TURNING A BLOCK

module _ (dimension : ℕ) (vector : Vector) (answer : List ℕ) (r r' : ℕ × List ℕ) where
  bbfmm_look_up_determined : r ≡ look_up_told dimension vector answer → r' ≡ look_up_told dimension vector answer → r ≡ r'
  bbfmm_look_up_determined = coincide r r' (look_up_told dimension vector answer)

module _ (dimension order : ℕ) (vector : Vector) (node : ℕ) (answer : List ℕ) (r r' : ℕ × List ℕ) where
  bbfmm_follow_node_determined : r ≡ follow_told dimension order vector node answer →
      r' ≡ follow_told dimension order vector node answer → r ≡ r'
  bbfmm_follow_node_determined = coincide r r' (follow_told dimension order vector node answer)

module _ (dimension number : ℕ) (vector : List ℤ) (r r' : ℕ × List ℤ) where
  bbfmm_reference_vector_determined : r ≡ reference_told dimension number vector → r' ≡ reference_told dimension number vector → r ≡ r'
  bbfmm_reference_vector_determined = coincide r r' (reference_told dimension number vector)

module _ (dimension order case : ℕ) (table : List ℕ) (r r' : ℕ × List ℕ) where
  bbfmm_combined_permutation_determined : r ≡ table_call dimension order case (turned dimension order case) table →
      r' ≡ table_call dimension order case (turned dimension order case) table → r ≡ r'
  bbfmm_combined_permutation_determined = coincide r r' (table_call dimension order case (turned dimension order case) table)

  bbfmm_inverse_permutation_determined : r ≡ table_call dimension order case (returned dimension order case) table →
      r' ≡ table_call dimension order case (returned dimension order case) table → r ≡ r'
  bbfmm_inverse_permutation_determined = coincide r r' (table_call dimension order case (returned dimension order case) table)

-- POLYNOMIALS

module _ (order : ℕ) (nodes : List Float) (r r' : ℕ × List Float) where
  bbfmm_generate_chebyshev_nodes_determined : r ≡ nodes_call order nodes → r' ≡ nodes_call order nodes → r ≡ r'
  bbfmm_generate_chebyshev_nodes_determined = coincide r r' (nodes_call order nodes)

module _ (order set : ℕ) (nodes : List Float) (r r' : ℕ × List Float) where
  bbfmm_generate_node_set_determined : r ≡ set_call order set nodes → r' ≡ set_call order set nodes → r ≡ r'
  bbfmm_generate_node_set_determined = coincide r r' (set_call order set nodes)

module _ (order rows : ℕ) (with : Bool) (points tn dtn : List Float) (r r' : ℕ × List Float × List Float) where
  bbfmm_evaluate_chebyshev_polynomials_determined : r ≡ polynomials_call order rows with points tn dtn →
      r' ≡ polynomials_call order rows with points tn dtn → r ≡ r'
  bbfmm_evaluate_chebyshev_polynomials_determined = coincide r r' (polynomials_call order rows with points tn dtn)

module _ (order rows : ℕ) (points : List Float) (lent : second.Memory) (r r' : ℕ × second.Memory) where
  bbfmm_evaluate_second_derivatives_determined : r ≡ second.second_call order rows points lent →
      r' ≡ second.second_call order rows points lent → r ≡ r'
  bbfmm_evaluate_second_derivatives_determined = coincide r r' (second.second_call order rows points lent)

-- TRANSFER

module _ (order : ℕ) (nodes polynomials operators : List Float) (r r' : ℕ × List Float) where
  bbfmm_get_m2m_transfer_operators_determined : r ≡ operators_call order nodes polynomials operators →
      r' ≡ operators_call order nodes polynomials operators → r ≡ r'
  bbfmm_get_m2m_transfer_operators_determined = coincide r r' (operators_call order nodes polynomials operators)

module _ (dimension order child : ℕ) (transpose : Bool) (input operators first second : List Float)
    (r r' : ℕ × List Float × List Float) where
  bbfmm_apply_cheb_tensor_transfer_determined : r ≡ transfer_call dimension order child transpose input operators first second →
      r' ≡ transfer_call dimension order child transpose input operators first second → r ≡ r'
  bbfmm_apply_cheb_tensor_transfer_determined = coincide r r' (transfer_call dimension order child transpose input operators first second)

-- POINTS

module _ (dimension order : ℕ) (side : Float) (reference : ℕ) (nodes points : List Float) (r r' : ℕ × List Float) where
  bbfmm_generate_chebyshev_target_points_determined : r ≡ target_call dimension order side nodes points →
      r' ≡ target_call dimension order side nodes points → r ≡ r'
  bbfmm_generate_chebyshev_target_points_determined = coincide r r' (target_call dimension order side nodes points)

  bbfmm_generate_chebyshev_source_points_determined : r ≡ source_call dimension order side reference nodes points →
      r' ≡ source_call dimension order side reference nodes points → r ≡ r'
  bbfmm_generate_chebyshev_source_points_determined = coincide r r' (source_call dimension order side reference nodes points)

-- DISTANCES

module _ (x r r' : Float) where
  bbfmm_square_root_determined : SquareRoot x r → SquareRoot x r' → r ≡ r'
  bbfmm_square_root_determined = square_root_determined x r r'

module _ (dimension order : ℕ) (side : Float) (reference : ℕ) (nodes : List Float) (lent : distances.Memory)
    (r r' : ℕ × distances.Memory) where
  bbfmm_sample_distances_determined : r ≡ distances.sample_call dimension order side reference nodes lent →
      r' ≡ distances.sample_call dimension order side reference nodes lent → r ≡ r'
  bbfmm_sample_distances_determined = coincide r r' (distances.sample_call dimension order side reference nodes lent)

-- COEFFICIENTS

module _ (dimension rows : ℕ) (side : Float) (centre points : List Float) (r r' : ℕ × List Float) where
  bbfmm_scale_points_determined : r ≡ scale_call dimension rows side centre points → r' ≡ scale_call dimension rows side centre points →
      r ≡ r'
  bbfmm_scale_points_determined = coincide r r' (scale_call dimension rows side centre points)

module _ (dimension order rows : ℕ) (with : Bool) (side : Float) (polynomials coordinates : List Float) (lent : coefficients.Memory)
    (r r' : ℕ × coefficients.Memory) where
  bbfmm_get_approximation_coefficients_determined : r ≡ coefficients.coefficients_call dimension order rows (wanted_of with side) polynomials
      coordinates lent →
      r' ≡ coefficients.coefficients_call dimension order rows (wanted_of with side) polynomials coordinates lent → r ≡ r'
  bbfmm_get_approximation_coefficients_determined =
      coincide r r' (coefficients.coefficients_call dimension order rows (wanted_of with side) polynomials coordinates lent)

module _ (dimension order rows : ℕ) (side : Float) (polynomials coordinates : List Float) (lent : curvatures.Memory)
    (r r' : ℕ × curvatures.Memory) where
  bbfmm_get_curvature_coefficients_determined : r ≡ curvatures.curvature_call dimension order rows side polynomials coordinates lent →
      r' ≡ curvatures.curvature_call dimension order rows side polynomials coordinates lent → r ≡ r'
  bbfmm_get_curvature_coefficients_determined =
      coincide r r' (curvatures.curvature_call dimension order rows side polynomials coordinates lent)

module _ (dimension order rows : ℕ) (side floor : Float) (centre polynomials carbonMonoxide nitrogen oxygen : List Float)
    (lent : ratios.Memory) (r r' : ℕ × ratios.Memory) where
  bbfmm_graham_ratios_determined : r ≡ ratios.ratios_call dimension order rows side floor centre polynomials carbonMonoxide nitrogen oxygen
      lent →
      r' ≡ ratios.ratios_call dimension order rows side floor centre polynomials carbonMonoxide nitrogen oxygen lent → r ≡ r'
  bbfmm_graham_ratios_determined =
      coincide r r' (ratios.ratios_call dimension order rows side floor centre polynomials carbonMonoxide nitrogen oxygen lent)

-- BLOCKS AS TEXTS

module _ (text sizes : List ℕ) (r r' : ℕ × List ℕ) where
  bbfmm_block_size_determined : r ≡ size_told text sizes → r' ≡ size_told text sizes → r ≡ r'
  bbfmm_block_size_determined = coincide r r' (size_told text sizes)

module _ (text : List ℕ) (block : List Float) (sizes : List ℕ) (r r' : ℕ × List Float × List ℕ) where
  bbfmm_read_block_determined : r ≡ read_told text block sizes → r' ≡ read_told text block sizes → r ≡ r'
  bbfmm_read_block_determined = coincide r r' (read_told text block sizes)

module _ (rows columns : ℕ) (block : List Float) (text written : List ℕ) (r r' : ℕ × List ℕ × List ℕ) where
  bbfmm_write_block_determined : r ≡ write_told rows columns block text written → r' ≡ write_told rows columns block text written → r ≡ r'
  bbfmm_write_block_determined = coincide r r' (write_told rows columns block text written)

-- CHOICES AND CROSS APPROXIMATION

module _ (entries : List Float) (mask place : List ℕ) (r r' : ℕ × List ℕ) where
  bbfmm_argmax_masked_determined : r ≡ argmax_told entries mask place → r' ≡ argmax_told entries mask place → r ≡ r'
  bbfmm_argmax_masked_determined = coincide r r' (argmax_told entries mask place)

module _ (values : List Float) (epsilon : Float) (place : List ℕ) (r r' : ℕ × List ℕ) where
  bbfmm_calculate_singular_values_cutoff_determined : r ≡ cutoff_told values epsilon place → r' ≡ cutoff_told values epsilon place → r ≡ r'
  bbfmm_calculate_singular_values_cutoff_determined = coincide r r' (cutoff_told values epsilon place)

module _ (rows columns : ℕ) (samples : List Float) (epsilon : Float) (restart : Bool) (lent : Memory) (counts : List ℕ)
    (numbers : List Float) (r r' : Crossed) where
  bbfmm_aca_partial_pivoting_determined : r ≡ cross_told rows columns samples epsilon restart lent counts numbers →
      r' ≡ cross_told rows columns samples epsilon restart lent counts numbers → r ≡ r'
  bbfmm_aca_partial_pivoting_determined = coincide r r' (cross_told rows columns samples epsilon restart lent counts numbers)
