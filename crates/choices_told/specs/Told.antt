-- What masked argmax and rank cutoff answer and leave where the answer goes into a lent slice.
use Rattle.std.specs.Prelude.{ℕ, List, [], ◌∷◌, Float}
use Rattle.aca_pivots.specs.Largest.{argmax, counts}
use Rattle.choices.specs.Argmax.{argmax_number}
use Rattle.choices.specs.Cutoff.{cutoff, cutoff_number}
use Rattle.answers.specs.Answers.{written}

unfoldable pub argmax_told : (entries : List Float) → (mask place : List ℕ) → ℕ × List ℕ
argmax_told l mask = written (argmax_number l mask) (argmax l (counts mask) ∷ [])

unfoldable pub cutoff_told : (values : List Float) → (epsilon : Float) → (place : List ℕ) → ℕ × List ℕ
cutoff_told l epsilon = written (cutoff_number l) (cutoff l epsilon ∷ [])
