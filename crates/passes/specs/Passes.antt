-- One pass of the tensor transfer, by products of rows and columns.
use Rattle.std.specs.Prelude.{Bool, cond, List, ℕ, Float}
use Rattle.common.specs.Floats.{inner}
use Rattle.common.specs.Matrices.{column_major}

-- One pass reads the data as p rows and so many columns. Output place c + width * r is the sum over s of data (s, c) times operator (r, s).
unfoldable pub passed : (p width : ℕ) → (values operator : ℕ → ℕ → Float) → List Float
passed p width values operator = column_major width p (λ c r. inner p (λ s. values s c) (operator r))

-- operator (r, s) for M2M, (s, r) for L2L
unfoldable pub directed : (transpose : Bool) → (operator : ℕ → ℕ → Float) → (r s : ℕ) → Float
directed transpose operator r s = cond transpose (operator s r) (operator r s)
