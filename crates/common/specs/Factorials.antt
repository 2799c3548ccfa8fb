-- In how many orders n things can stand.
use Rattle.std.specs.Prelude.{ℕ, zero, suc, ◌*◌}

unfoldable pub factorial : ℕ → ℕ
factorial zero = 1
factorial (suc n) = suc n * factorial n
