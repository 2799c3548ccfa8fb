-- Results that the requests fix, as one table: each row is a line of a request, said of the definition that a call's contract cites.
use Rattle.std.specs.Prelude.{ℕ, ◌<◌, ◌≡◌, Bool, true, false, List, [], ◌∷◌, ◌++◌, Float, length, get_or}
use Rattle.std.proofs.Math.Option.{Option, some, none}
use Rattle.std.specs.Float.{nan, inf, binary64}
use Rattle.std.specs.Float.Ieee.{neg, of_bits}
use Rattle.common.specs.Floats.{float, zero₆₄, one₆₄, two₆₄, half₆₄}
use Rattle.coordinates.specs.Coordinates.{points_number}
use Rattle.roots.specs.Values.{root}
use Rattle.distances.specs.Distances.{sample}
use Rattle.airs.specs.Airs.{air_of}
use Rattle.ratios.specs.Ratios.{ratios_call}
use Rattle.airs.specs.declared.Air.TheVariants.{Ratio, Unusable, Fresh}
use Rattle.exchange_format.specs.Lines.{newline}
use Rattle.exchange_format.specs.Words.{banner, kind, Size}
use Rattle.exchange_format.specs.Calls.{size_call, read_call, write_call}
use Rattle.aca_progress.specs.Crosses.{tiny₆₄}
use Rattle.aca_steps.specs.Memories.{Memory, memory}
use Rattle.aca.specs.Runs.{approximation, call, aca_call}
use Rattle.aca.specs.Unseen.{SameRow, SameColumn}
use Rattle.fixed.specs.Results.{two, four, lent}

-- 1 + 2 ^ -20, and the next float
abbrev pub border : Float
border = of_bits binary64 0x3ff0000100000000

abbrev pub beyond : Float
beyond = of_bits binary64 0x3ff0000100000001

-- readings of docs/EVIDENCE.md, in per cent: nitrogen, oxygen and carbon monoxide in the old goaf and in fresh air; and two floors,
-- 1/10 and a millionth
module _ {A : Type 0} (f : (carbonMonoxide nitrogen oxygen : Float) → A) where
  abbrev pub old_goaf : A
  old_goaf = f (of_bits binary64 0x3f789374bc6a7efa) (float 86) (of_bits binary64 0x4023947ae147ae14)

  abbrev pub fresh_air : A
  fresh_air = f (of_bits binary64 0x3f1a36e2eb1c432d) (of_bits binary64 0x4053c28f5c28f5c3) (of_bits binary64 0x4034ee147ae147ae)

abbrev pub tenth : Float
tenth = of_bits binary64 0x3fb999999999999a

abbrev pub millionth : Float
millionth = of_bits binary64 0x3eb0c6f7a0b5ed8d

-- a Matrix Market text: the first line, and what follows it; and a block of one entry in it
abbrev pub file : List ℕ → List ℕ
file rest = banner ++ (kind ++ (newline ∷ rest))

abbrev pub single : List ℕ → List ℕ
single entry = file (49 ∷ 32 ∷ 49 ∷ 10 ∷ entry)

-- 9007199254740992, which is 2 ^ 53, and the next number
abbrev pub most : List ℕ
most = 57 ∷ 48 ∷ 48 ∷ 55 ∷ 49 ∷ 57 ∷ 57 ∷ 50 ∷ 53 ∷ 52 ∷ 55 ∷ 52 ∷ 48 ∷ 57 ∷ 57 ∷ 50 ∷ []

abbrev pub past_most : List ℕ
past_most = 57 ∷ 48 ∷ 48 ∷ 55 ∷ 49 ∷ 57 ∷ 57 ∷ 50 ∷ 53 ∷ 52 ∷ 55 ∷ 52 ∷ 48 ∷ 57 ∷ 57 ∷ 51 ∷ []

abbrev pub one_by_one : Option Size
one_by_one = some (record { rows = 1; columns = 1 })

-- the memory that is lent for a block of one entry
abbrev pub one : (x : Float) (i : ℕ) → Memory
one x i = memory (x ∷ []) (x ∷ []) (i ∷ []) (i ∷ []) (x ∷ []) (x ∷ [])

-- What E9's theorem would be with half of what it asks: that blocks which agree on the rows that the first one's run lists give one run,
-- or that blocks which agree on its columns do.
module _ (restart : Bool) where
  abbrev pub RowsAlone : Type 0
  RowsAlone =
      (m n : ℕ) (a b : List Float) (epsilon : Float) (t : Memory) →
      (let l = (approximation m n a epsilon restart t).found.rows in (k : ℕ) → k < length l → SameRow m n a b (get_or l k 0)) →
      approximation m n a epsilon restart t ≡ approximation m n b epsilon restart t

  abbrev pub ColumnsAlone : Type 0
  ColumnsAlone =
      (m n : ℕ) (a b : List Float) (epsilon : Float) (t : Memory) →
      (let l = (approximation m n a epsilon restart t).found.columns in (k : ℕ) → k < length l → SameColumn m n a b (get_or l k 0)) →
      approximation m n a epsilon restart t ≡ approximation m n b epsilon restart t

pub record Requested : Type 0 where
  -- E1: in a cell of side 2 about 0, a point at 1 + 2 ^ -20 passes, on either side; at the next float it is refused with 11
  pub border_passes : points_number 1 1 two₆₄ (zero₆₄ ∷ []) (border ∷ []) ≡ 0
  pub beyond_refused : points_number 1 1 two₆₄ (zero₆₄ ∷ []) (beyond ∷ []) ≡ 11
  pub low_border_passes : points_number 1 1 two₆₄ (zero₆₄ ∷ []) (neg border ∷ []) ≡ 0
  pub low_beyond_refused : points_number 1 1 two₆₄ (zero₆₄ ∷ []) (neg beyond ∷ []) ≡ 11
  -- E3: a zero and +∞ are their own roots; a NaN and whatever is below 0 have a NaN; 2, and the least float above 0
  pub zero_root : root zero₆₄ ≡ zero₆₄
  pub minus_zero_root : root (neg zero₆₄) ≡ neg zero₆₄
  pub infinite_root : root (inf false) ≡ inf false
  pub nan_root : root nan ≡ nan
  pub negative_root : root (neg one₆₄) ≡ nan
  pub minus_infinite_root : root (inf true) ≡ nan
  pub root_of_two : root two₆₄ ≡ of_bits binary64 0x3ff6a09e667f3bcd
  pub root_of_least : root (of_bits binary64 1) ≡ of_bits binary64 0x1e60000000000000
  -- E3: between the single nodes of two blocks of side 1, two blocks apart on a line; and at (2, 1), the root of 5
  pub on_a_line : sample 1 1 one₆₄ 0 (zero₆₄ ∷ []) 0 0 ≡ two₆₄
  pub in_a_plane : sample 2 1 one₆₄ 1 (zero₆₄ ∷ []) 0 0 ≡ of_bits binary64 0x4001e3779b97f4a8
  -- E4, restart mode at 0.5: rows (1,0),(0,1) give rank 2, rows 0,1, columns 0,1, stop 3
  pub unit_restarted : (x : Float) (i : ℕ) →
      aca_call 2 2 (four one₆₄ zero₆₄ zero₆₄ one₆₄) half₆₄ true (lent x i)
      ≡ call (0, some (record { rank = 2; estimate = two₆₄; smallest = one₆₄; stop = 3; rows_read = 2 }))
      (memory (four one₆₄ zero₆₄ zero₆₄ one₆₄) (four one₆₄ zero₆₄ zero₆₄ one₆₄) (two 0 1) (two 0 1) (two zero₆₄ one₆₄) (two zero₆₄ one₆₄))
  -- rows (0,0),(1,0) give rank 1, rows 0,1, column 0, stop 4
  pub low_restarted : (x : Float) (i : ℕ) →
      aca_call 2 2 (four zero₆₄ one₆₄ zero₆₄ zero₆₄) half₆₄ true (lent x i)
      ≡ call (0, some (record { rank = 1; estimate = one₆₄; smallest = one₆₄; stop = 4; rows_read = 2 }))
      (memory (four zero₆₄ one₆₄ x x) (four one₆₄ zero₆₄ x x) (two 0 1) (two 0 i) (two one₆₄ zero₆₄) (two zero₆₄ one₆₄))
  -- the block (NaN) gives rank 0, row 0, stop 4; and in the old mode rank 1, stop 3
  pub nan_restarted : (x : Float) (i : ℕ) →
      aca_call 1 1 (nan ∷ []) half₆₄ true (one x i)
      ≡ call (0, some (record { rank = 0; estimate = zero₆₄; smallest = zero₆₄; stop = 4; rows_read = 1 }))
      (memory (x ∷ []) (x ∷ []) (0 ∷ []) (i ∷ []) (nan ∷ []) (x ∷ []))
  pub nan_old : (x : Float) (i : ℕ) →
      aca_call 1 1 (nan ∷ []) half₆₄ false (one x i)
      ≡ call (0, some (record { rank = 1; estimate = nan; smallest = zero₆₄; stop = 3; rows_read = 1 }))
      (memory (nan ∷ []) (nan ∷ []) (0 ∷ []) (0 ∷ []) (nan ∷ []) (nan ∷ []))
  -- Rows (49,0),(0,0). 49 times 1/49 falls short of 1 by 2 ^ -53, so the first term leaves something of row 0. The old mode reads that
  -- row again, and takes column 0 twice. Restart mode reads row 1, which has nothing in column 1: rank 1, rows 0,1, column 0, stop 4.
  pub seven_squared : (x : Float) (i : ℕ) →
      aca_call 2 2 (four (float 49) zero₆₄ zero₆₄ zero₆₄) half₆₄ true (lent x i)
      ≡ call
      (0, some (record { rank = 1; estimate = of_bits binary64 0x40a2c1ffffffffff; smallest = float 49; stop = 4; rows_read = 2 }))
      (memory (four (float 49) zero₆₄ x x) (four (of_bits binary64 0x3fefffffffffffff) zero₆₄ x x) (two 0 1) (two 0 i)
      (two zero₆₄ zero₆₄) (two (float 49) zero₆₄))
  -- E8: the same block in the old mode; the second pivot is 2 ^ -47, and that is the smallest
  pub smallest_second : (x : Float) (i : ℕ) →
      aca_call 2 2 (four (float 49) zero₆₄ zero₆₄ zero₆₄) half₆₄ false (lent x i)
      ≡ call (
        0,
        some (record {
          rank = 2;
          estimate = of_bits binary64 0x40a2c20000000001;
          smallest = of_bits binary64 0x3d00000000000000;
          stop = 1;
          rows_read = 2;
        }),
      )
      (memory (four (float 49) zero₆₄ (of_bits binary64 0x3d00000000000000) zero₆₄)
      (four (of_bits binary64 0x3fefffffffffffff) zero₆₄ one₆₄ zero₆₄) (two 0 0) (two 0 0) (two one₆₄ zero₆₄)
      (two (of_bits binary64 0x3d00000000000000) zero₆₄))
  -- a pivot of -2 ^ -52 is told without its sign, in restart mode; an infinite one is told, in the old mode
  pub smallest_negative : (x : Float) (i : ℕ) →
      aca_call 1 1 (neg tiny₆₄ ∷ []) half₆₄ true (one x i)
      ≡ call (0, some (record { rank = 1; estimate = of_bits binary64 0x3970000000000000; smallest = tiny₆₄; stop = 3; rows_read = 1 }))
      (memory (neg tiny₆₄ ∷ []) (one₆₄ ∷ []) (0 ∷ []) (0 ∷ []) (one₆₄ ∷ []) (neg tiny₆₄ ∷ []))
  pub smallest_infinite : (x : Float) (i : ℕ) →
      aca_call 1 1 (inf true ∷ []) half₆₄ false (one x i)
      ≡ call (0, some (record { rank = 1; estimate = nan; smallest = inf false; stop = 3; rows_read = 1 }))
      (memory (inf true ∷ []) (nan ∷ []) (0 ∷ []) (0 ∷ []) (nan ∷ []) (inf true ∷ []))
  -- E5: the old goaf has a ratio, 0.046; fresh air has one, 0.641, over a floor near 0, and none over a floor of 1/10
  pub goaf_ratio : old_goaf (air_of tenth) ≡ Ratio (of_bits binary64 0x3fa7a17a17a17a16)
  pub fresh_ratio : fresh_air (air_of millionth) ≡ Ratio (of_bits binary64 0x3fe4834834834445)
  pub fresh_none : fresh_air (air_of tenth) ≡ Fresh
  -- a deficiency that equals the floor has a ratio; one below it is fresh air, whatever the carbon monoxide is
  pub at_floor : air_of one₆₄ one₆₄ zero₆₄ (neg one₆₄) ≡ Ratio (float 100)
  pub below_floor : air_of (of_bits binary64 0x3ff0000000000001) nan zero₆₄ (neg one₆₄) ≡ Fresh
  -- a deficiency or a ratio that is not finite is an unusable field
  pub no_deficiency : air_of one₆₄ one₆₄ nan zero₆₄ ≡ Unusable
  pub no_ratio : air_of one₆₄ (inf false) zero₆₄ (neg one₆₄) ≡ Unusable
  -- a floor of 0 is refused with 12, with no point too; and with 11 where a point is out of its cell
  pub no_floor : (x : Float) →
      ratios_call 1 1 0 two₆₄ zero₆₄ (zero₆₄ ∷ []) (x ∷ []) (x ∷ []) (x ∷ []) (x ∷ []) ([], [], [], [], []) ≡ (12, ([], [], [], [], []))
  pub cell_first : (x : Float) (i : ℕ) →
      ratios_call 1 1 1 two₆₄ zero₆₄ (zero₆₄ ∷ []) (x ∷ []) (x ∷ []) (x ∷ []) (x ∷ []) (beyond ∷ [], x ∷ [], x ∷ [], i ∷ [], x ∷ [])
      ≡ (11, (beyond ∷ [], x ∷ [], x ∷ [], i ∷ [], x ∷ []))
  -- E6: -0 is read as +0.0, and 2 ^ 53 as itself; the next number is refused with 15 at its line, and the block stays
  pub minus_zero : (x : Float) → read_call (single (45 ∷ 48 ∷ [])) (x ∷ []) ≡ ((0, 0, one_by_one), zero₆₄ ∷ [])
  pub largest_entry : (x : Float) → read_call (single most) (x ∷ []) ≡ ((0, 0, one_by_one), of_bits binary64 0x4340000000000000 ∷ [])
  pub past_largest : (x : Float) → read_call (single past_most) (x ∷ []) ≡ ((15, 3, none), x ∷ [])
  -- an empty text has no first line, and the first line alone no sizes
  pub no_text : size_call [] ≡ (13, 1, none)
  pub no_sizes : size_call (file []) ≡ (14, 2, none)
  -- a missing entry is refused where it should stand, and a blank line past the last one where it stands
  pub entry_missing : (x : Float) → read_call (single []) (x ∷ []) ≡ ((16, 3, none), x ∷ [])
  pub blank_past : (x : Float) → read_call (single (53 ∷ 10 ∷ 10 ∷ [])) (x ∷ []) ≡ ((16, 4, none), x ∷ [])
  -- in writing -0.0 is refused with 15, at the line that it would have
  pub minus_zero_unwritten : (b : ℕ) → write_call 1 1 (neg zero₆₄ ∷ []) (b ∷ []) ≡ ((15, 3, none), b ∷ [])
  -- E9: neither half is enough, in either mode. At epsilon 1, of rows (1,0),(0,0) row 0 and column 0 are listed, and the estimate is 1;
  -- of rows (1,0),(1,0), the same in row 0, it is 2; and of rows (1,1),(0,0), the same in column 0, too.
  pub rows_not_enough : (restart : Bool) → RowsAlone restart → ⊥
  pub columns_not_enough : (restart : Bool) → ColumnsAlone restart → ⊥
