-- The Rust's own nodes do not turn exactly: the theorem of the mirror-exact ones is false of them. Assumes nothing.
use mathlib.Core.Path.{◌≡◌, refl}
use Prim.Native.Nat.{ℕ}
use native.Mathlib.Omega.{arith}
use lib.IntN.{ℤ, pos, negsuc}
use lib.Ieee.{Float, binary64, of_bits, to_bits, of_int, mul, add, sub}
use Rattle.common.specs.Digits.{digit, from_digits}
use Rattle.common.specs.Factorials.{factorial}
use Rattle.vectors.specs.Order.{skip, axis, place, largest, axis_order}
use Rattle.vectors.specs.Vectors.{case}
use Rattle.turn_tables.specs.Turned.{reversed, negative, place_of, turned_index, turned}
use Rattle.node_rows.specs.Rows.{entry, node}
use Rattle.mirror.specs.FloatTurns.{difference, FloatTurns}

abbrev three₆₄ : Float
three₆₄ = of_bits binary64 0x4008000000000000

abbrev minus_two : ℕ → ℤ
minus_two a = negsuc 1

-- with two nodes, the table of -2 sends node 1 to node 0
reversed_there : turned 1 2 (case 1 minus_two) 1 ≡ 0
unfolding digit from_digits factorial skip place largest axis_order case reversed negative place_of turned_index turned
reversed_there = refl

-- Order 2, vector -2, side 3: between node 1 and itself the difference is 6; after the turn, between node 0 and itself, it has the
-- size of the next float above 6.
pub rusts_nodes_differ : FloatTurns 1 2 three₆₄ (node 2) (λ m. pos 2) minus_two (turned 1 2 (case 1 minus_two)) → ⊥
unfolding difference mul add sub of_int of_bits to_bits entry digit factorial skip axis largest axis_order
rusts_nodes_differ w =
    let sizes = rw reversed_there at (w.differences 1 1 0 (omega arith) (omega arith) (omega arith)) in
    let same : ◌≡◌ {A = ℕ} 0x4018000000000000 0x4018000000000001 = sizes.bits in
    omega arith
