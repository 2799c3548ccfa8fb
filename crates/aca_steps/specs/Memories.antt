-- Lent memory: U, V, the lists of the rows and the columns read, and a working row and column.
use Rattle.std.specs.Prelude.{ℕ, List, ◌++◌, Float, length, drop}
use Rattle.common.specs.Matrices.{matrix}
use Rattle.aca_progress.specs.Crosses.{Block, Found}

pub record Memory : Type 0 where
  pub us : List Float
  pub vs : List Float
  pub row_list : List ℕ
  pub column_list : List ℕ
  pub row : List Float
  pub column : List Float

abbrev pub memory : (us vs : List Float) → (rows columns : List ℕ) → (row column : List Float) → Memory
memory u v i j w x = record { us = u; vs = v; row_list = i; column_list = j; row = w; column = x }

-- the memory behind the six slices that are lent
abbrev pub behind : (u v : List Float) → (rows columns : List ℕ) → (row column : List Float) → Memory
behind u v i j w x = memory u v i j w x

module _ {A : Type 0} where
  -- a list written over the front of another, of which the rest is kept
  abbrev pub upon : (list lent : List A) → List A
  upon l t = l ++ drop (length l) t

-- what is found stands in front; the unused places are kept
unfoldable pub laid : Found → Memory → Memory
laid f t =
    record {
      us = upon f.us t.us;
      vs = upon f.vs t.vs;
      row_list = upon f.rows t.row_list;
      column_list = upon f.columns t.column_list;
      row = f.row;
      column = f.column;
    }

-- the block whose samples are lent
abbrev pub block_of : (m n : ℕ) → (samples : List Float) → Block
block_of m n a = record { rows = m; columns = n; at = matrix m a }
