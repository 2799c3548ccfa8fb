-- Pairs of axes: which one stands at a number, and that both axes are below the dimension. Assumes nothing.
use mathlib.Core.Path.{◌≡◌, refl}
use mathlib.Core.Bool.{Bool, true, ◌&&◌, and-eq-true_iff}
use Prim.Native.Nat.{ℕ, zero, suc, ◌+◌, ◌-◌, ◌<◌, ◌≤◌}
use native.Mathlib.Omega.{arith}
use lib.Dec.{leb, ltb}
use borrow.Author.Tests.{leb-true, ltb-true}
use Rattle.common.specs.Tests.{each}
use Rattle.common.proofs.Tests.{each_at}
use Rattle.curvatures.specs.Curvatures.{pairs_from, pair_at, pair_count}
use Rattle.curvatures.specs.declared.pairs.Pair.{Pair}

-- those that begin with axis 0, those that begin with axis 1, and the last of three axes
pub begins_with_0 : (D q : ℕ) → D ≤ 3 → q < D → ◌≡◌ {A = Pair} (record { first = 0; second = q }) (pair_at D q)
unfolding pair_at pairs_from
begins_with_0 zero q h l = absurd (omega arith)
begins_with_0 (suc zero) zero h l = refl
begins_with_0 (suc zero) (suc q) h l = absurd (omega arith)
begins_with_0 (suc (suc zero)) zero h l = refl
begins_with_0 (suc (suc zero)) (suc zero) h l = refl
begins_with_0 (suc (suc zero)) (suc (suc q)) h l = absurd (omega arith)
begins_with_0 (suc (suc (suc zero))) zero h l = refl
begins_with_0 (suc (suc (suc zero))) (suc zero) h l = refl
begins_with_0 (suc (suc (suc zero))) (suc (suc zero)) h l = refl
begins_with_0 (suc (suc (suc zero))) (suc (suc (suc q))) h l = absurd (omega arith)
begins_with_0 (suc (suc (suc (suc D)))) q h l = absurd (omega arith)

pub begins_with_1 : (D q : ℕ) → D ≤ 3 → D ≤ q → q + 1 < D + D → ◌≡◌ {A = Pair} (record { first = 1; second = q + 1 - D }) (pair_at D q)
unfolding pair_at pairs_from
begins_with_1 zero q h g l = absurd (omega arith)
begins_with_1 (suc zero) q h g l = absurd (omega arith)
begins_with_1 (suc (suc zero)) q h g l = let e : q ≡ 2 = omega arith in rw e
begins_with_1 (suc (suc (suc zero))) zero h g l = absurd (omega arith)
begins_with_1 (suc (suc (suc zero))) (suc zero) h g l = absurd (omega arith)
begins_with_1 (suc (suc (suc zero))) (suc (suc zero)) h g l = absurd (omega arith)
begins_with_1 (suc (suc (suc zero))) (suc (suc (suc zero))) h g l = refl
begins_with_1 (suc (suc (suc zero))) (suc (suc (suc (suc zero)))) h g l = refl
begins_with_1 (suc (suc (suc zero))) (suc (suc (suc (suc (suc q))))) h g l = absurd (omega arith)
begins_with_1 (suc (suc (suc (suc D)))) q h g l = absurd (omega arith)

pub begins_with_2 : (D q : ℕ) → 1 ≤ D → D ≤ 3 → D + D ≤ q + 1 → q < pair_count D →
    ◌≡◌ {A = Pair} (record { first = 2; second = 2 }) (pair_at D q)
unfolding pair_at pairs_from
begins_with_2 zero q some h g l = absurd (omega arith)
begins_with_2 (suc zero) q some h g l = absurd (omega (arith, l))
begins_with_2 (suc (suc zero)) q some h g l = absurd (omega (arith, l))
begins_with_2 (suc (suc (suc zero))) q some h g l = let e : q ≡ 5 = omega (arith, l) in rw e
begins_with_2 (suc (suc (suc (suc D)))) q some h g l = absurd (omega arith)

-- both axes are below the dimension, and in order; computed at each pair
abbrev rises : (D q : ℕ) → Bool
rises D q = leb (pair_at D q).first (pair_at D q).second && ltb (pair_at D q).second D

all_rise : (D : ℕ) → D ≤ 3 → each (pair_count D) (rises D) ≡ true
unfolding each pair_at pairs_from
all_rise zero h = refl
all_rise (suc zero) h = refl
all_rise (suc (suc zero)) h = refl
all_rise (suc (suc (suc zero))) h = refl
all_rise (suc (suc (suc (suc D)))) h = absurd (omega arith)

pub pair_rises : (D q : ℕ) → D ≤ 3 → q < pair_count D → ((pair_at D q).first ≤ (pair_at D q).second) × ((pair_at D q).second < D)
pair_rises D q h l =
    let both = (and-eq-true_iff (leb (pair_at D q).first (pair_at D q).second) (ltb (pair_at D q).second D)).0
    (each_at (pair_count D) (rises D) (all_rise D h) q l) in
    (leb-true _ _ both.0, ltb-true _ _ both.1)

-- there are no more than six
pub count_most : (D : ℕ) → D ≤ 3 → pair_count D ≤ 6
count_most zero h = omega arith
count_most (suc zero) h = omega arith
count_most (suc (suc zero)) h = omega arith
count_most (suc (suc (suc zero))) h = omega arith
count_most (suc (suc (suc (suc D)))) h = absurd (omega arith)
