-- What the walk that fills a table speaks of; no public call's contract cites it. As an index rises, the image of a node moves by a fixed
-- step.
use Rattle.std.specs.Prelude.{ℕ, ◌+◌, ◌-◌, ◌*◌, ◌%◌, ◌^◌, ◌<◌, ◌≤◌, Bool, true, false, cond, List, nat_lt}
use Rattle.common.specs.Lists.{stores}
use Rattle.turn_tables.specs.declared.Steps.{Steps}
use Rattle.turn_tables.specs.Turned.{negative, axis_of, turned}

-- How far the image moves, modulo 2^64, as the index on the reference's axis number e from the last rises by one:
-- by the weight of the axis that it goes to, downwards where that axis is reversed. There is no axis past the first.
unfoldable pub step_of : (D p case e : ℕ) → ℕ
step_of D p k e =
    cond (nat_lt e D)
    (cond (negative D k (axis_of D k (D - 1 - e))) (2 ^ 64 - p ^ (D - 1 - axis_of D k (D - 1 - e))) (p ^ (D - 1 - axis_of D k (D - 1 - e))))
    0

-- the image of node 0, and the steps of the last three axes
unfoldable pub steps_of : (D p case : ℕ) → Steps
steps_of D p k =
    record { start = turned D p k 0; node = step_of D p k 0; row = step_of D p k 1; plane = step_of D p k 2 }

-- i steps from a start, modulo 2^64
unfoldable pub stepped : (start step i : ℕ) → ℕ
stepped start step i = (start + i * step) % 2 ^ 64

-- each image stored at its node's place; for the inverse, each node at its image's place
unfoldable pub stored : (inverse : Bool) → (node image : ℕ → ℕ) → ℕ → List ℕ → List ℕ
stored false node image n l = stores node image n l
stored true node image n l = stores image node n l

-- a row of nodes and their images have places in a table of n entries
pub record Runs (node order image step n : ℕ) : Type 0 where
  pub few : n ≤ 4096
  pub nodes : node + order ≤ n
  pub images : (i : ℕ) → i < order → stepped image step i < n
