-- How often a byte stands in a list.
use Rattle.std.specs.Prelude.{cond, List, [], ◌∷◌, ℕ, ◌+◌, eqb}

-- how many bytes of a list are this one
unfoldable pub occurs : (byte : ℕ) → List ℕ → ℕ
occurs b [] = 0
occurs b (x ∷ l) = cond (eqb x b) 1 0 + occurs b l
