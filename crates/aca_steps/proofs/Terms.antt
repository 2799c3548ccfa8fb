-- The first terms of a run: a line less k terms, and the cross term with them, look no further than k columns
-- of U and V. Assumes nothing.
use mathlib.Core.Path.{◌≡◌, ap}
use mathlib.Core.Bool.{Bool}
use mathlib.Core.List.{List}
use Prim.Native.Nat.{ℕ, ◌+◌, ◌*◌, ◌<◌}
use lib.Arith.{digits_lt}
use lib.Ieee.{Float, nan}
use lib.ListN.{length, take}
use lib.Seq.{get_or-take}
use Rattle.common.specs.Floats.{minus, times, inner}
use Rattle.common.specs.Matrices.{matrix}
use Rattle.common.proofs.Fill.{tabulate_cong}
use Rattle.common.proofs.Sums.{sums_cong}
use Rattle.aca_lines.specs.Lines.{residual, entry, cross}
use Rattle.aca_progress.specs.Crosses.{grown, judged}
use Rattle.aca_progress.specs.declared.Progress.{Progress}
use Rattle.aca_progress.specs.Steps.{Step}

-- the first k columns of a matrix are all that the first k terms are about
front : (m k : ℕ) (l : List Float) (i j : ℕ) → i < m → j < k → matrix m (take (k * m) l) i j ≡ matrix m l i j
front m k l i j h b = get_or-take (k * m) l (j * m + i) nan (digits_lt b h)

pub residual_front : (n m k i : ℕ) (line : ℕ → Float) (terms factors : List Float) → i < m →
    residual n k line (matrix n (take (k * n) terms)) (matrix m (take (k * m) factors) i)
    ≡ residual n k line (matrix n terms) (matrix m factors i)
unfolding residual
residual_front n m k i line terms factors h =
    tabulate_cong n _ _
    (λ c b. ap (minus (line c)) (sums_cong k _ _ (λ l a. rw (front n k terms c l b a, front m k factors i l h a))))

inner_front : (m k : ℕ) (us u : List Float) (l : ℕ) → l < k →
    inner m (λ i. matrix m (take (k * m) us) i l) (entry u) ≡ inner m (λ i. matrix m us i l) (entry u)
inner_front m k us u l h = sums_cong m _ _ (λ i b. ap (λ (x : Float). times x (entry u i)) (front m k us i l b h))

pub cross_front : (k : ℕ) (us vs u v : List Float) → cross k (take (k * length u) us) (take (k * length v) vs) u v ≡ cross k us vs u v
unfolding cross
cross_front k us vs u v = sums_cong k _ _ (λ l h. rw (inner_front (length u) k us u l h, inner_front (length v) k vs v l h))

-- a term is judged by its norm, its cross term and the row to read next, whatever they are called
pub judged_so : (restart : Bool) (m k : ℕ) (tolerance : Float) (on : ℕ → Bool) (s : Progress) {s' : Progress} {r : Step}
    {g g' x x' : Float} {i i' : ℕ} → r ≡ judged restart m k tolerance g on s' → s' ≡ grown s g x i →
    g ≡ g' → x ≡ x' → i ≡ i' → r ≡ judged restart m k tolerance g' on (grown s g' x' i')
judged_so restart m k tolerance on s a b c d e = cc
