-- Blocks of columns, one after the other, in one matrix: what each turn of a loop over them adds. Assumes nothing.
use mathlib.Core.Path.{◌≡◌, sym, ◌∙◌}
use mathlib.Core.List.{List}
use Prim.Native.Nat.{ℕ, ◌+◌, ◌-◌, ◌*◌, ◌/◌, ◌%◌, ◌<◌, ◌≤◌}
use native.Mathlib.Nat.{mul_assoc, div-lt_iff_lt-mul}
use native.Mathlib.Omega.{arith}
use lib.Arith.{digits_div, digits_mod}
use lib.Ieee.{Float}
use lib.ListN.{length}
use borrow.Rule.Slice.PartMut.{put_mid}
use Rattle.common.specs.Matrices.{cell, column_major}
use Rattle.common.proofs.Fill.{stretch_part}
use Rattle.common.proofs.Matrices.{some_rows, cell_block}
use Rattle.common.proofs.Steps.{Stepping, stepping_fits, stepping_more}

-- so many blocks of N columns and P rows; column c stands in block c / N
module _ (blocks N P : ℕ) (block : (b i k : ℕ) → Float) where
  abbrev pub all : (i c : ℕ) → Float
  all i c = block (c / N) i (c % N)

  module _ (b : ℕ) where
    in_block : (j : ℕ) → j < N * P → cell P (block b) j ≡ cell P all (b * (N * P) + j)
    in_block j h =
        let some = some_rows N P j h in
        let column : j / P < N = (div-lt_iff_lt-mul some).1 h in
        let whole : block b (j % P) (j / P) ≡ all (j % P) (b * N + j / P) = rw (digits_mod b column, digits_div b column) in
        whole ∙ sym (cell_block P all N b j h)

    -- a call that was lent the block's part has filled it
    pub block_more : (before now filled : List Float) (M at : ℕ) → M ≡ N → b < blocks → length before ≡ blocks * N * P →
        Stepping 0 blocks (M * P) (cell P all) before now b at → filled ≡ column_major P N (block b) →
        Stepping 0 blocks (M * P) (cell P all) before (put_mid at (at + M * P - at) now filled) (b + 1) (at + M * P)
    unfolding column_major
    block_more before now filled M at n l long h f =
        let room : 0 + blocks * (M * P) ≤ length before = rw (n, ← mul_assoc) (omega arith) in
        let fits = stepping_fits 0 blocks (M * P) (cell P all) before now b at h l in
        stepping_more 0 blocks (M * P) (cell P all) before now _ b at (cell P (block b)) h l room (rw n in_block)
        (stretch_part at (cell P (block b)) now (M * P) filled (omega (arith, h.long)) (rw n f))
