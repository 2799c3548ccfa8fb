-- What stands at each place of a run, of a cycle and of a column. Assumes nothing.
use mathlib.Core.Path.{◌≡◌, sym, ap, ◌∙◌}
use mathlib.Core.List.{List}
use Prim.Native.Nat.{ℕ, suc, ◌+◌, ◌-◌, ◌*◌, ◌/◌, ◌%◌, ◌^◌, ◌<◌, ◌≤◌}
use native.Mathlib.Nat.{mul-le-mul, mul-one, div-one, mul_assoc, mul-add-div_right, mul-add-mod_self_right, mod-eq_of_lt, div-lt_iff_lt-mul}
use native.Mathlib.Nat.{pow-succ'}
use native.Mathlib.Omega.{arith}
use lib.Arith.{digits_div}
use lib.Ieee.{Float, nan}
use lib.ListN.{length, get_or}
use lib.Pow.{pow-add}
use Rattle.common.specs.Digits.{digit}
use Rattle.common.specs.Lists.{stretch}
use Rattle.common.specs.Matrices.{cell}
use Rattle.common.proofs.Digits.{digit_below}
use Rattle.common.proofs.Fill.{tabulate_cong, fill_read}
use Rattle.common.proofs.Limits.{power_most}
use Rattle.common.proofs.Matrices.{cell_at, some_rows, columns_filled}
use Rattle.common.proofs.Steps.{Stepping, stepping_more}
use Rattle.point_columns.specs.Blocks.{node_on, points_of}
use Rattle.point_columns.specs.Working.{cycled}

-- run i of a cycle holds value i
pub run_value : (run : ℕ) (values : List Float) (i j : ℕ) → j < run → get_or values i nan ≡ cycled run values (i * run + j)
run_value run values i j h = rw (digits_div i h)

-- where a run has one place, a cycle is the values themselves
pub short_cycle : (p run at : ℕ) (values l : List Float) → run ≡ 1 → stretch at p (λ i. get_or values i nan) l
    ≡ stretch at (p * run) (cycled run values) l
short_cycle p run at values l e =
    rw (e, mul-one, tabulate_cong p (cycled 1 values) (λ i. get_or values i nan) (λ i _. ap (λ (k : ℕ). get_or values k nan) (div-one i)))

-- place j of cycle k is row k * (p * run) + j: the index there goes by j alone
index_in : (p run k j : ℕ) → j < p * run → (k * (p * run) + j) / run % p ≡ j / run
index_in p run k j h =
    let some = some_rows p run j h in
    let less : j / run < p = (div-lt_iff_lt-mul some).1 h in
    rw (← mul_assoc, mul-add-div_right some (k * p) j, mul-add-mod_self_right k p (j / run)) (mod-eq_of_lt less)

module _ (D p a : ℕ) (values : List Float) where
  pub cycle_value : (run k j : ℕ) → run ≡ p ^ (D - 1 - a) → j < p * run → cycled run values j ≡ node_on D p a values (k * (p * run) + j)
  unfolding digit
  cycle_value run k j e h = rw (← e) (ap (λ (i : ℕ). get_or values i nan) (sym (index_in p run k j h)))

-- the cycles of an axis make the column
pub column_whole : (D p a cycles run : ℕ) → a < D → cycles ≡ p ^ a → run ≡ p ^ (D - 1 - a) → cycles * (p * run) ≡ p ^ D
column_whole D p a cycles run l e e' =
    let all : a + suc (D - 1 - a) ≡ D = omega arith in
    rw (e, e', ← pow-succ', ← pow-add, all)

-- a cycle is small
pub cycle_most : (p n run : ℕ) → p ≤ 16 → n ≤ 3 → run ≡ p ^ n → p * run ≤ 65536
cycle_most p n run h l e = mul-le-mul {n₁ = p} {m₁ = run} {n₂ = 16} {m₂ = 4096} h (rw e (power_most p n h l))

-- THE COLUMNS of all axes, one after the other

module _ (D p rows : ℕ) where
  -- there is room for a further column
  pub column_room : (at long : ℕ) → rows ≡ p ^ D → long ≡ D * p ^ D → at + rows ≤ 0 + D * rows → at + p ^ D ≤ long
  column_room at long e w h = let h' : at + p ^ D ≤ 0 + D * p ^ D = rw e at h in omega arith

  -- a call has filled the column of an axis from the values v, which each node becomes on it
  pub column_more : (f : ℕ → ℕ → Float) (before now after : List Float) (axis at : ℕ) (v : ℕ → Float) (values₀ values : List Float) →
      rows ≡ p ^ D → length before ≡ D * p ^ D → 0 < p → Stepping 0 D rows (cell rows f) before now axis at → axis < D →
      values ≡ stretch 0 p v values₀ → ((n : ℕ) → v (digit p D axis n) ≡ f n axis) →
      after ≡ stretch at (p ^ D) (node_on D p axis values) now →
      Stepping 0 D rows (cell rows f) before after (axis + 1) (at + rows)
  column_more f before now after axis at v values₀ values e w o h l made same filled =
      let value : (n : ℕ) → n < rows → node_on D p axis values n ≡ cell rows f (axis * rows + n) =
      λ n b. rw made (fill_read p v values₀ (digit p D axis n) nan (digit_below p D axis n o)) ∙ same n ∙ sym (cell_at rows f n axis b) in
      stepping_more 0 D rows (cell rows f) before now after axis at (node_on D p axis values) h l (rw (e, w) (omega arith)) value
      (rw e filled)

  -- all columns are filled
  pub points_done : (f : ℕ → ℕ → Float) (l : List Float) → rows ≡ p ^ D → length l ≡ D * p ^ D →
      stretch 0 (D * rows) (cell rows f) l ≡ points_of D p f
  points_done f l e w = rw e (columns_filled (p ^ D) f D l w)
