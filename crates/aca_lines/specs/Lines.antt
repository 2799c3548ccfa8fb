-- A row or a column of a block: what is left of it after the earlier terms, and what it weighs.
use Rattle.std.specs.Prelude.{ℕ, ◌*◌, List, Float, length, get_or}
use Rattle.std.specs.Float.{nan}
use Rattle.common.specs.Floats.{minus, times, inner}
use Rattle.common.specs.Lists.{tabulate, stretch}
use Rattle.common.specs.Matrices.{matrix}

-- n entries of a line of the block, less the first k terms there: these are summed by the product rule, and subtracted once
unfoldable pub residual : (n k : ℕ) → (line : ℕ → Float) → (terms : ℕ → ℕ → Float) → (factors : ℕ → Float) → List Float
residual n k line terms factors = tabulate n (λ c. minus (line c) (inner k (terms c) factors))

-- row i of a block of m by n samples, less the first k terms; and column j
abbrev pub row_less : (m n : ℕ) → (samples us vs : List Float) → (k i : ℕ) → List Float
row_less m n a us vs k i = residual n k (matrix m a i) (matrix n vs) (matrix m us i)

abbrev pub column_less : (m n : ℕ) → (samples us vs : List Float) → (k j : ℕ) → List Float
column_less m n a us vs k j = residual m k (λ i. matrix m a i j) (matrix m us) (matrix n vs j)

unfoldable pub multiplied : (factor : Float) → List Float → List Float
multiplied x l = tabulate (length l) (λ c. times (get_or l c nan) x)

abbrev pub entry : List Float → ℕ → Float
entry l i = get_or l i nan

-- a line as column k of a matrix, all the rest kept
abbrev pub as_column : (k : ℕ) → (line matrix : List Float) → List Float
as_column k l a = stretch (k * length l) (length l) (entry l) a

-- (u . u) * (v . v), and the sum of (u_l . u) * (v_l . v) over the k earlier terms l
unfoldable pub norm : (u v : List Float) → Float
norm u v = times (inner (length u) (entry u) (entry u)) (inner (length v) (entry v) (entry v))

unfoldable pub cross : (k : ℕ) → (us vs u v : List Float) → Float
cross k us vs u v =
    inner k
    (λ l. inner (length u) (λ i. matrix (length u) us i l) (entry u))
    (λ l. inner (length v) (λ i. matrix (length v) vs i l) (entry v))
