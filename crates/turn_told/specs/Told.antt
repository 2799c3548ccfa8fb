-- What looking up, following a node and a reference vector answer and leave where the answer goes into lent slices.
use Rattle.std.specs.Prelude.{ℕ, cond, List, [], ◌∷◌, ℤ}
use Rattle.vectors.specs.declared.Vector.{Vector}
use Rattle.vectors.specs.declared.Known.{Known}
use Rattle.vectors.specs.Vectors.{sizes}
use Rattle.vectors.specs.LookUps.{entries, look_up_number, known_of, reference_number, reference_at}
use Rattle.turn.specs.declared.follow.Moves.{Moves}
use Rattle.turn.specs.Follow.{follow_number, moves_of}
use Rattle.answers.specs.Answers.{written}

-- index, case and reference number, and 1 for near, else 0
abbrev pub known_values : Known → List ℕ
known_values k = k.index ∷ k.case ∷ k.reference ∷ cond k.near 1 0 ∷ []

unfoldable pub look_up_told : (D : ℕ) → Vector → (answer : List ℕ) → ℕ × List ℕ
look_up_told D v = written (look_up_number D (sizes (entries v))) (known_values (known_of D (entries v)))

abbrev pub moves_values : Moves → List ℕ
moves_values m = m.image ∷ m.origin ∷ []

unfoldable pub follow_told : (D p : ℕ) → Vector → (n : ℕ) → (answer : List ℕ) → ℕ × List ℕ
follow_told D p v n = written (follow_number D p (sizes (entries v)) n) (moves_values (moves_of D p (entries v) n))

abbrev pub vector_values : Vector → List ℤ
vector_values v = v.0 ∷ v.1 ∷ v.2 ∷ []

unfoldable pub reference_told : (D i : ℕ) → (vector : List ℤ) → ℕ × List ℤ
reference_told D i = written (reference_number D i) (vector_values (reference_at D i))
