-- Each public contract determines the answer and the lent memory: two outcomes that it allows for an input coincide. Assumes nothing.
use mathlib.Core.Path.{◌≡◌}
use mathlib.Core.List.{List}
use Prim.Native.Nat.{ℕ}
use lib.Ieee.{Float}
use Rattle.std.specs.Prelude.{Result}
use Rattle.common.specs.Numbers.{told_number}
use Rattle.common.specs.declared.refusals.Refusal.{Refusal}
use Rattle.common.proofs.Determined.{told_coincide}
use Rattle.nodes.specs.Nodes.{nodes_call}
use Rattle.nodes.specs.Sets.{set_call}

module _ (order : ℕ) (nodes exit exit' : List Float) (r r' : Result Unit Refusal) where
  generate_chebyshev_nodes_determined : (told_number r, exit) ≡ nodes_call order nodes →
      (told_number r', exit') ≡ nodes_call order nodes → ◌≡◌ {A = Result Unit Refusal × List Float} (r, exit) (r', exit')
  generate_chebyshev_nodes_determined = told_coincide r r' exit exit' (nodes_call order nodes)

  generate_node_set_determined : (set : ℕ) → (told_number r, exit) ≡ set_call order set nodes →
      (told_number r', exit') ≡ set_call order set nodes → ◌≡◌ {A = Result Unit Refusal × List Float} (r, exit) (r', exit')
  generate_node_set_determined set = told_coincide r r' exit exit' (set_call order set nodes)
