-- In the cell: between the borders; the centre is, and whatever is there is finite. Assumes nothing.
use mathlib.Core.Path.{◌≡◌, refl, sym, ◌∙◌}
use mathlib.Core.Bool.{true, false, true≢false, ◌&&◌, and-eq-true_iff}
use Prim.Native.Nat.{ℕ, zero, suc, ◌-◌, ◌*◌, ◌<◌}
use native.Mathlib.Nat.{mul-pos, zero-lt-suc, zero-mul, sub_self, le_refl}
use native.Mathlib.Omega.{arith}
use lib.Dec.{T}
use lib.Ieee.{Float, nan, inf, fin, up, down, lt, eq, le, neg, add, sub, sum, div, mul, round, units, of_bits, of_fields, odd, binary64}
use lib.Ieee.Fits.{up_pos, down_pos}
use lib.Ieee.Positive.{positive, between, mul_mono}
use lib.Ieee.Scale.{finite, round_same}
use borrow.Author.Tests.{le-ltb, ne_eqb}
use Rattle.common.specs.Floats.{minus, times, over, zero₆₄, half₆₄, shortest₆₄, longest₆₄, size}
use Rattle.common.specs.Refusals.{is_cell}
use Rattle.common.proofs.Sizes.{size_between}
use Rattle.coordinates.specs.Coordinates.{coordinate_in, border₆₄, in_cell}

-- the two tests of the program
pub between_borders : (x : Float) → (le (neg border₆₄) x && le x border₆₄) ≡ in_cell x
unfolding in_cell neg of_bits of_fields odd
between_borders x = size_between 1048577 _ (zero-lt-suc 1048576) x

-- THE CENTRE IS IN THE CELL: its coordinate is +0.0

no_fraction : round binary64 false 0 1 ≡ zero₆₄
unfolding round units of_bits of_fields odd
no_fraction = refl

no_quotient : (a den : ℕ) → a ≡ 0 → 0 < den → round binary64 false a den ≡ zero₆₄
no_quotient a den z h = rw z (round_same binary64 false 0 den 0 1 h (zero-lt-suc 0) (sym (zero-mul den)) ∙ no_fraction)

difference : (x : Float) → finite x ≡ true → minus x x ≡ zero₆₄
unfolding sub add sum neg
difference nan h = absurd (true≢false (sym h))
difference (inf s) h = absurd (true≢false (sym h))
difference (fin true m e) h =
    let a = m * up e * down e in
    rw (le-ltb a a (le_refl a)) (no_quotient (a - a) (down e * down e) (sub_self a) (mul-pos (down_pos e) (down_pos e)))
difference (fin false m e) h =
    let a = m * up e * down e in
    rw (le-ltb a a (le_refl a)) (no_quotient (a - a) (down e * down e) (sub_self a) (mul-pos (down_pos e) (down_pos e)))

quotient : (x : Float) → T (positive x) → over zero₆₄ x ≡ zero₆₄
unfolding div of_bits of_fields odd
quotient nan h = elim h [ ]
quotient (inf _) h = elim h [ ]
quotient (fin false zero d) h = elim h [ ]
quotient (fin true _ d) h = elim h [ ]
quotient (fin false (suc n) d) h =
    rw (ne_eqb (suc n) 0 (λ e. omega arith))
    (no_quotient (0 * 1 * down d) (suc n * up d * 1) (zero-mul (down d))
    (mul-pos (mul-pos (zero-lt-suc n) (up_pos d)) (zero-lt-suc 0)))

-- THE SIDES of cells, and their halves, are positive numbers

ends : T (positive shortest₆₄) × T (positive longest₆₄)
unfolding of_bits of_fields odd
ends = (tt, tt)

a_half : T (positive half₆₄) × T (le half₆₄ half₆₄)
unfolding le lt eq of_bits of_fields odd
a_half = (tt, tt)

half_ends : T (positive (times shortest₆₄ half₆₄)) × T (positive (times longest₆₄ half₆₄))
unfolding mul round units of_bits of_fields odd
half_ends = (tt, tt)

half_positive : (side : Float) → is_cell side ≡ true → T (positive (times side half₆₄))
unfolding is_cell
half_positive side h =
    let both = (and-eq-true_iff (le shortest₆₄ side) (le side longest₆₄)).0 h in
    let low : T (le shortest₆₄ side) = rw both.0 tt in
    let high : T (le side longest₆₄) = rw both.1 tt in
    let own = between shortest₆₄ side longest₆₄ ends.0 ends.1 low high in
    between (times shortest₆₄ half₆₄) (times side half₆₄) (times longest₆₄ half₆₄) half_ends.0 half_ends.1
    (mul_mono binary64 shortest₆₄ side half₆₄ half₆₄ ends.0 own a_half.0 a_half.0 low a_half.1)
    (mul_mono binary64 side longest₆₄ half₆₄ half₆₄ own ends.1 a_half.0 a_half.0 high a_half.1)

zero_in_cell : in_cell zero₆₄ ≡ true
unfolding in_cell size le lt eq of_bits of_fields odd
zero_in_cell = refl

pub centre_in_cell : (side c : Float) → is_cell side ≡ true → finite c ≡ true → in_cell (coordinate_in side c c) ≡ true
unfolding coordinate_in
centre_in_cell side c h f = rw (difference c f, quotient (times side half₆₄) (half_positive side h)) zero_in_cell

-- WHAT IS IN THE CELL is finite

pub cell_finite : (x : Float) → in_cell x ≡ true → finite x ≡ true
unfolding in_cell size le lt eq neg of_bits of_fields odd
cell_finite nan h = absurd (true≢false (sym h))
cell_finite (inf true) h = absurd (true≢false (sym h))
cell_finite (inf false) h = absurd (true≢false (sym h))
cell_finite (fin s m e) h = refl
