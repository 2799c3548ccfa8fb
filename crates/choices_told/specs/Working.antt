-- What the code's own helper answers.
use Rattle.std.specs.Prelude.{ℕ, List, [], ◌∷◌, eqb, length}
use Rattle.std.proofs.Math.Option.{Option, none, some}
use Rattle.answers.specs.Answers.{with_length, written}

-- what a call tells, a number and perhaps a place, in a lent answer
abbrev pub place_or_none : (number : ℕ) → Option ℕ → (answer : List ℕ) → ℕ × List ℕ
place_or_none n none answer = (with_length n (eqb (length answer) 1), answer)
place_or_none n (some k) answer = written n (k ∷ []) answer

unfoldable pub place_told : ℕ × Option ℕ → (answer : List ℕ) → ℕ × List ℕ
place_told x = place_or_none x.0 x.1
