-- DEMAND 3 OF THE CALLS: what the four calls answer and leave for a far vector; proofs/RightCalls.antt proves it.
use Rattle.std.specs.Prelude.{◌≡◌, List, ℕ, ◌≤◌, pos, get_or, Ok}
use Rattle.common.specs.Numbers.{told}
use Rattle.vectors.specs.declared.Known.{Known}
use Rattle.vectors.specs.declared.Vector.{Vector}
use Rattle.vectors.specs.Vectors.{sizes}
use Rattle.turn_tables.specs.Turned.{turned, returned}
use Rattle.turn.specs.Turns.{Far, TurnIsRight}
use Rattle.turn.specs.Tables.{table_call}
use Rattle.vectors.specs.LookUps.{entries, look_up, reference_call}

-- a far vector as the calls take it: its entries past the dimension are 0
pub record FarVector (D : ℕ) (v : Vector) : Type 0 where
  pub far : Far D (sizes (entries v))
  pub past : (a : ℕ) → D ≤ a → entries v a ≡ pos 0

-- a node's entry in a table
abbrev pub at : (table : List ℕ) → (n : ℕ) → ℕ
at table n = get_or table n 0

pub record CallsAreRight (D p : ℕ) (v : Vector) (table inverse : List ℕ) : Type 0 where
  -- `look_up` answers Ok
  pub known : Known
  pub looked_up : look_up D v ≡ told (Ok known)
  -- `reference_vector` of its reference number answers Ok
  pub onto : Vector
  pub referred : reference_call D known.reference ≡ told (Ok onto)
  -- `combined_permutation` and `inverse_permutation` of its case answer Ok
  pub filled : List ℕ
  pub combined : table_call D p known.case (turned D p known.case) table ≡ (0, filled)
  pub undoing : List ℕ
  pub inverted : table_call D p known.case (returned D p known.case) inverse ≡ (0, undoing)
  -- and demand 3 holds of what was answered and left in memory
  pub right : TurnIsRight D p (entries v) known.reference (entries onto) (at filled) (at undoing)
