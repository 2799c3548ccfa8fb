-- Lines of a matrix: their inner products are dot products, and a residual is made in two passes. Assumes nothing.
use mathlib.Core.Path.{◌≡◌, ap, ◌∙◌}
use mathlib.Core.List.{List}
use Prim.Native.Nat.{ℕ, ◌+◌, ◌-◌, ◌*◌, ◌<◌, ◌≤◌}
use native.Mathlib.Nat.{one-mul, zero-add}
use lib.Ieee.{Float, nan}
use lib.ListN.{length, get_or, take, drop}
use Rattle.common.specs.Floats.{minus, times, sums, inner, dot_of}
use Rattle.common.specs.Lists.{tabulate}
use Rattle.common.proofs.Fill.{get_d_tabulate, tabulate_cong, part_length, part_read}
use Rattle.common.proofs.Sums.{sums_cong}
use Rattle.aca_lines.specs.Lines.{residual, entry}

-- a dot product reads a whole list
pub whole_in : (m s : ℕ) → s < m → 0 + 1 * s < m
whole_in m s b = rw (one-mul s, zero-add s) b

-- the entries of two lists
pub dot_whole : (n : ℕ) (a b : List Float) → dot_of n a 0 1 b 0 1 ≡ inner n (entry a) (entry b)
dot_whole n a b = sums_cong n _ _ (λ i _. rw (one-mul i, zero-add i))

-- the same of a stretch of its own
pub dot_part : (n at e : ℕ) (a b : List Float) → e ≡ at + n →
    dot_of n (take (e - at) (drop at a)) 0 1 b 0 1 ≡ inner n (λ i. get_or a (at + i) nan) (entry b)
dot_part n at e a b end =
    let part = take (e - at) (drop at a) in
    dot_whole n part b ∙
    sums_cong n (λ i. times (entry part i) (entry b i)) (λ i. times (get_or a (at + i) nan) (entry b i))
    (λ i h. ap (λ (x : Float). times x (entry b i)) (part_read at e n a i nan end h))

pub part_in : (n at e : ℕ) (a : List Float) → e ≡ at + n → at + n ≤ length a → (s : ℕ) → s < n →
    0 + 1 * s < length (take (e - at) (drop at a))
part_in n at e a end fits s b = rw (one-mul s, zero-add s, part_length at e n a end fits) b

-- a line of the block from which the terms' sums, which stood in a list, were subtracted
pub residual_is : (n k : ℕ) (line : ℕ → Float) (terms : ℕ → ℕ → Float) (factors : ℕ → Float) (summed after : List Float) →
    summed ≡ tabulate n (λ c. sums k (λ l. times (terms c l) (factors l))) →
    after ≡ tabulate n (λ c. minus (line c) (get_or summed c nan)) →
    after ≡ residual n k line terms factors
unfolding residual
residual_is n k line terms factors summed after e h =
    let total : (i : ℕ) → Float = λ i. sums k (λ l. times (terms i l) (factors l)) in
    h ∙ rw e
    (tabulate_cong n (λ c. minus (line c) (get_or (tabulate n total) c nan)) (λ c. minus (line c) (total c))
    (λ c b. ap (minus (line c)) (get_d_tabulate n total c nan b)))
