-- How far the differences of coordinates reach: with a cell's side and the mirror-exact nodes each is finite. Assumes nothing.
use mathlib.Core.Path.{◌≡◌, refl, sym}
use mathlib.Core.Bool.{Bool, true, false, and-eq-true_iff, true≢false}
use Prim.Native.Nat.{ℕ, zero, suc, ◌*◌, ◌^◌, ◌<◌, ◌≤◌}
use native.Mathlib.Nat.{le_trans, le_of_eq, one-mul, mul-one, not-suc-le-zero}
use native.Mathlib.Omega.{arith}
use lib.Dec.{T, leb, lit≤}
use lib.IntN.{ℤ, pos, nat_abs}
use lib.Ieee.{Float, nan, inf, fin, up, down, neg, of_int, of_bits, binary64, fits, le}
use lib.Ieee.Fits.{sub-fits}
use lib.Ieee.Positive.{positive, num, den, between, le→cross}
use borrow.Author.Tests.{leb-true}
use Rattle.common.specs.Floats.{half₆₄, plus, times, shortest₆₄, longest₆₄}
use Rattle.common.specs.Refusals.{is_cell}
use Rattle.common.specs.Tests.{each}
use Rattle.common.proofs.Tests.{each_at}
use Rattle.floats.specs.Bounds.{AtMost}
use Rattle.floats.specs.Signs.{magnitude}
use Rattle.floats.specs.Sizes.{SameSize}
use Rattle.floats.proofs.Bits.{equal_bits}
use Rattle.floats.proofs.Bounds.{most_more, most_number, most_finite, mul_most, add_most, sub_most, of_int_most}
use Rattle.point_columns.specs.Blocks.{on_target, on_source}
use Rattle.node_rows.specs.Rows.{entry}
use Rattle.nodes.specs.Sets.{mirrored}
use Rattle.mirror.specs.FloatTurns.{difference}

holds : (b : Bool) → b ≡ true → T b
holds true h = tt
holds false h = absurd (true≢false (sym h))

-- A CELL'S SIDE is at most 2 ^ 30

within : (x : Float) → T (positive x) → (k : ℕ) → num x * 1 ≤ 2 ^ k * den x → AtMost k x
within nan p k h = absurd p
within (inf s) p k h = absurd p
within (fin s m e) p k h = le_trans (le_of_eq (sym (mul-one (m * up e)))) h

longest_is : longest₆₄ ≡ fin false 1 (pos 30)
unfolding of_bits
longest_is = refl

shortest_positive : T (positive shortest₆₄)
unfolding of_bits
shortest_positive = tt

side_most : (side : Float) → is_cell side ≡ true → AtMost 30 side
unfolding is_cell
side_most side h =
    let two = (and-eq-true_iff (le shortest₆₄ side) (le side longest₆₄)).0 h in
    let low = holds (le shortest₆₄ side) two.0 in
    let high : T (le side (fin false 1 (pos 30))) = rw longest_is at (holds (le side longest₆₄) two.1) in
    let p = between shortest₆₄ side (fin false 1 (pos 30)) shortest_positive tt low high in
    within side p 30 (le→cross side (fin false 1 (pos 30)) p tt high)

-- THE NODES are at most 1, by one test over the table

small : Float → Bool
small nan = false
small (inf s) = false
small (fin s m e) = leb (m * up e) (down e)

small_order : ℕ → Bool
small_order q = each (suc q) (λ i. small (mirrored (suc q) i))

all_small : each 16 small_order ≡ true
unfolding each small_order small entry mirrored neg of_bits
all_small = refl

small_most : (x : Float) → small x ≡ true → AtMost 0 x
unfolding small
small_most nan h = absurd (holds false h)
small_most (inf s) h = absurd (holds false h)
small_most (fin s m e) h = le_trans (leb-true _ _ h) (le_of_eq (sym (one-mul (down e))))

pub node_most : (p i : ℕ) → p ≤ 16 → i < p → AtMost 0 (mirrored p i)
unfolding small_order
node_most zero i u h = absurd (not-suc-le-zero h)
node_most (suc q) i u h =
    small_most _ (each_at (suc q) (λ i. small (mirrored (suc q) i)) (each_at 16 small_order all_small q (omega arith)) i h)

-- THE DIFFERENCE is at most 2 ^ 34

half_most : AtMost 0 half₆₄
unfolding of_bits
half_most = lit≤ tt

pub difference_most : (side : Float) (e : ℤ) (s t : Float) → is_cell side ≡ true → nat_abs e ≤ 3 → AtMost 0 s → AtMost 0 t →
    AtMost 34 (difference side e s t)
unfolding difference
difference_most side e s t c h hs ht =
    let r = of_int binary64 e in
    let x = times s half₆₄ in
    let cell = side_most side c in
    let near : AtMost 2 r = of_int_most binary64 2 e (lit≤ tt) (omega arith) in
    let moved : AtMost 2 x = most_more 0 2 x (lit≤ tt) (mul_most binary64 0 0 s half₆₄ (lit≤ tt) hs half_most) in
    let source : AtMost 33 (on_source side r s) =
    mul_most binary64 3 30 (plus r x) side (lit≤ tt) (add_most binary64 2 (lit≤ tt) r x near moved) cell in
    let target : AtMost 30 (on_target side t) =
    mul_most binary64 0 30 t (times half₆₄ side) (lit≤ tt) ht (mul_most binary64 0 30 half₆₄ side (lit≤ tt) half_most cell) in
    sub_most binary64 33 (lit≤ tt) (on_source side r s) (on_target side t) source (most_more 30 33 (on_target side t) (lit≤ tt) target)

-- and of one magnitude two are of one size, by their bits
difference_fits : (side : Float) (e : ℤ) (s t : Float) → T (fits binary64 (difference side e s t))
unfolding difference
difference_fits side e s t = sub-fits binary64 _ _

pub same_size : (side : Float) (d e : ℤ) (s t s' t' : Float) → AtMost 34 (difference side d s t) → AtMost 34 (difference side e s' t') →
    magnitude (difference side d s t) ≡ magnitude (difference side e s' t') →
    SameSize binary64 (difference side d s t) (difference side e s' t')
same_size side d e s t s' t' hx hy same =
    let x = difference side d s t in
    let y = difference side e s' t' in
    record {
      finite_first = most_finite 34 x hx;
      finite_second = most_finite 34 y hy;
      bits = equal_bits binary64 x y (difference_fits side d s t) (difference_fits side e s' t')
          (most_number 34 x hx) (most_number 34 y hy) same;
    }
