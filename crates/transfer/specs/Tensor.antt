-- The tensor transfer: a pass along each axis, the last first, from one buffer to the other.
use Rattle.std.specs.Prelude.{Bool, ◌&&◌, List, ℕ, zero, suc, ◌+◌, ◌-◌, ◌*◌, ◌/◌, ◌%◌, ◌^◌, ltb, eqb, Float, length}
use Rattle.common.specs.Matrices.{matrix}
use Rattle.common.specs.Refusals.{no_dimension, no_order, no_case, wrong_length, unless, is_dimension, is_order, left}
use Rattle.passes.specs.Passes.{passed, directed}

-- The operators' lower half is their first p columns, and the upper half the next p. Along an axis it is the lower one where bit
-- `axis` of the child is 0, else the upper.
unfoldable pub operator_half : (p child axis : ℕ) → (operators : List Float) → (r s : ℕ) → Float
operator_half p child axis operators r s = matrix p operators r (child / 2 ^ axis % 2 * p + s)

-- the pass along an axis
unfoldable pub along : (p width child : ℕ) → (transpose : Bool) → (operators : List Float) → (axis : ℕ) → (values : List Float) → List Float
along p width child transpose operators axis values =
    passed p width (matrix p values) (directed transpose (operator_half p child axis operators))

-- What two buffers hold once the passes of the axes below n are done, the highest first, each from one buffer to the other:
-- the one that the first pass reads, and the one that it writes.
unfoldable pub ends : (pass : ℕ → List Float → List Float) → (n : ℕ) → (read written : List Float) → List Float × List Float
ends pass zero r w = (r, w)
ends pass (suc n) r w = ((ends pass n (pass n r) r).1, (ends pass n (pass n r) r).0)

-- THE CALL

unfoldable pub transfer_number : (D p child input operators first second : ℕ) → ℕ
transfer_number D p c i o f s =
    unless (is_dimension D) no_dimension
    (unless (is_order p) no_order
    (unless (ltb c (2 ^ D)) no_case
    (unless (eqb i (p ^ D) && (eqb o ((p + p) * p) && (eqb f (p ^ D) && eqb s (p ^ D)))) wrong_length 0)))

-- The passes start from the input in the first buffer, as p rows and p ^ (D - 1) columns. The result is in the first for D = 2, and in the
-- second otherwise.
unfoldable pub transferred : (D p child : ℕ) → (transpose : Bool) → (input operators second : List Float) → List Float × List Float
transferred D p c transpose input operators second = ends (along p (p ^ (D - 1)) c transpose operators) D input second

unfoldable pub transfer_call : (D p child : ℕ) → (transpose : Bool) → (input operators first second : List Float) →
    ℕ × List Float × List Float
transfer_call D p c transpose i o f s = (
  transfer_number D p c (length i) (length o) (length f) (length s),
  left (transfer_number D p c (length i) (length o) (length f) (length s)) (transferred D p c transpose i o s).0 f,
  left (transfer_number D p c (length i) (length o) (length f) (length s)) (transferred D p c transpose i o s).1 s,
)
