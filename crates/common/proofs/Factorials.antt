-- The constant table of factorials holds what the definition says, by one computed test; and how large a factorial is. Assumes nothing.
use mathlib.Core.Path.{◌≡◌, refl}
use mathlib.Core.List.{List, [], ◌∷◌}
use Prim.Native.Nat.{ℕ, zero, suc, ◌<◌, ◌≤◌}
use native.Mathlib.Nat.{mul-pos}
use native.Mathlib.Omega.{arith}
use lib.Dec.{leb, eqb}
use lib.ListN.{get_or}
use borrow.Author.Tests.{eqb-true, leb-true}
use Rattle.common.specs.Factorials.{factorial}
use Rattle.common.specs.Tests.{each}
use Rattle.common.proofs.Tests.{each_at}

abbrev pub factorials : List ℕ
factorials = 1 ∷ 1 ∷ 2 ∷ 6 ∷ []

pub factorial_at : (n : ℕ) → n ≤ 3 → get_or factorials n 0 ≡ factorial n
unfolding each factorial
factorial_at n h = eqb-true _ _ (each_at 4 (λ k. eqb (get_or factorials k 0) (factorial k)) refl n (omega arith))

pub factorial_most : (n : ℕ) → n ≤ 3 → factorial n ≤ 6
unfolding each factorial
factorial_most n h = leb-true _ _ (each_at 4 (λ k. leb (factorial k) 6) refl n (omega arith))

pub factorial_pos : (n : ℕ) → 0 < factorial n
unfolding factorial
factorial_pos zero = omega arith
factorial_pos (suc n) = mul-pos (omega arith) (factorial_pos n)
