-- The gases at points, from what the nodes of a cell count for there; and what is told of the air.
use Rattle.std.specs.Prelude.{List, ℕ, Float, get_or}
use Rattle.std.specs.Float.{nan}
use Rattle.common.specs.Floats.{inner}
use Rattle.common.specs.Lists.{tabulate}
use Rattle.common.specs.Matrices.{matrix}
use Rattle.airs.specs.Airs.{air_of, number_of, ratio_or}
use Rattle.airs.specs.declared.Air.{Air}

-- With N nodes and P points, values are P rows by N columns, and an expansion has an entry a node

-- a gas at point i is the product of that row with its expansion
unfoldable pub field : (N P : ℕ) → (values expansion : List Float) → (i : ℕ) → Float
field N P values expansion i = inner N (matrix P values i) (λ k. get_or expansion k nan)

abbrev pub air_at : (N P : ℕ) → (floor : Float) → (values carbonMonoxide nitrogen oxygen : List Float) → (i : ℕ) → Air
air_at N P floor v c n o i = air_of floor (field N P v c i) (field N P v n i) (field N P v o i)

-- an answer a point; and a ratio where there is one, the rest as it was lent
unfoldable pub answers_of : (P : ℕ) → (ℕ → Air) → List ℕ
answers_of P air = tabulate P (λ i. number_of (air i))

unfoldable pub ratios_of : (P : ℕ) → (ℕ → Air) → (lent : List Float) → List Float
ratios_of P air lent = tabulate P (λ i. ratio_or (air i) (get_or lent i nan))
