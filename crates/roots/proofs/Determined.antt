-- The contract of `square_root` determines its answer: two answers that it allows for one argument coincide. Assumes nothing.
use mathlib.Core.Path.{◌≡◌, sym, ◌∙◌}
use lib.Ieee.{Float}
use Rattle.roots.specs.Values.{SquareRoot}

pub square_root_determined : (x r r' : Float) → SquareRoot x r → SquareRoot x r' → r ≡ r'
square_root_determined x r r' h k = h.value ∙ sym k.value
