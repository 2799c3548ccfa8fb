-- What looking up a vector answers, how a vector turns its reference, and what asking for a reference vector answers.
use Rattle.std.specs.Prelude.{ℕ, zero, suc, ◌+◌, ◌-◌, cond, ltb, ℤ, pos, length}
use Rattle.std.proofs.Math.Option.{Option}
use Rattle.common.specs.Refusals.{no_dimension, no_entry, no_case, not_zero, unless, is_dimension, answer}
use Rattle.vectors.specs.declared.Vector.{Vector}
use Rattle.vectors.specs.declared.Known.{Known}
use Rattle.vectors.specs.declared.Turn.{Turn}
use Rattle.vectors.specs.Order.{axis_order}
use Rattle.vectors.specs.Vectors.{sizes, is_negative, index, case, at_most, near, references, entry, reference}

-- the entries of the code's vector by axis, and 0 past the third
abbrev pub entries : Vector → (ℕ → ℤ)
entries v zero = v.0
entries v (suc zero) = v.1
entries v (suc (suc zero)) = v.2
entries v (suc (suc (suc a))) = pos 0

-- LOOKING UP

-- each of the first D entries is from -3 to 3, and each past them is 0
unfoldable pub look_up_number : (D : ℕ) → (sizes : ℕ → ℕ) → ℕ
look_up_number D s =
    unless (is_dimension D) no_dimension (unless (at_most 3 D s) no_entry (unless (at_most 0 (3 - D) (λ a. s (D + a))) not_zero 0))

-- what is known of a vector that is not refused
unfoldable pub known_of : (D : ℕ) → (ℕ → ℤ) → Known
known_of D v = record { index = index D v; case = case D v; reference = reference D v; near = near D v }

unfoldable pub look_up : (D : ℕ) → Vector → ℕ × Option Known
look_up D v = answer (look_up_number D (sizes (entries v))) (known_of D (entries v))

-- HOW A VECTOR TURNS its reference: which of its entries are negative, and the number of the order of its axes by falling size

unfoldable pub turn_of : (D : ℕ) → (ℕ → ℤ) → Turn
turn_of D v =
    record { first = is_negative (v 0); second = is_negative (v 1); third = is_negative (v 2); order = axis_order D (sizes v) }

unfoldable pub turning_call : (D : ℕ) → Vector → ℕ × Option Turn
turning_call D v = answer (look_up_number D (sizes (entries v))) (turn_of D (entries v))

-- REFERENCE VECTORS

unfoldable pub reference_number : (D i : ℕ) → ℕ
reference_number D i = unless (is_dimension D) no_dimension (unless (ltb i (length (references D))) no_case 0)

-- reference number i as the code's vector: its entries, and 0 past the dimension
unfoldable pub reference_at : (D i : ℕ) → Vector
reference_at D i = (at 0, at 1, at 2)
  where
    at : ℕ → ℤ
    at a = cond (ltb a D) (pos (entry D i a)) (pos 0)

unfoldable pub reference_call : (D i : ℕ) → ℕ × Option Vector
reference_call D i = answer (reference_number D i) (reference_at D i)
