-- Document 01's fixed results, as one table: each row is a line of the document, said of the definition that a call's contract cites.
use Rattle.std.specs.Prelude.{ℕ, ◌≡◌, true, false, List, [], ◌∷◌, pos, negsuc, Float, Ok}
use Rattle.std.proofs.Math.Option.{some}
use Rattle.std.specs.Float.Ieee.{neg, of_bits}
use Rattle.std.specs.Float.{binary64}
use Rattle.common.specs.Numbers.{told}
use Rattle.common.specs.Floats.{float, zero₆₄, one₆₄, two₆₄, half₆₄}
use Rattle.vectors.specs.LookUps.{look_up}
use Rattle.turn.specs.Tables.{table_call}
use Rattle.turn_tables.specs.Turned.{turned, returned}
use Rattle.chebyshev.specs.Polynomials.{polynomials_call}
use Rattle.transfer.specs.Tensor.{transfer_call}
use Rattle.choices.specs.Argmax.{argmax_call}
use Rattle.choices.specs.Cutoff.{cutoff_call}
use Rattle.aca_steps.specs.Memories.{Memory, memory}
use Rattle.aca.specs.Runs.{call, aca_call}

-- lists of two, three and four
module _ {A : Type 0} where
  abbrev pub two : (a b : A) → List A
  two a b = a ∷ b ∷ []

  abbrev pub three : (a b c : A) → List A
  three a b c = a ∷ b ∷ c ∷ []

  abbrev pub four : (a b c d : A) → List A
  four a b c d = a ∷ b ∷ c ∷ d ∷ []

abbrev pub three_quarters : Float
three_quarters = of_bits binary64 0x3fe8000000000000

-- the memory that is lent for a block of two by two: x in every place for a float, i in every place of the lists
abbrev pub lent : (x : Float) (i : ℕ) → Memory
lent x i = memory (four x x x x) (four x x x x) (two i i) (two i i) (two x x) (two x x)

pub record Fixed : Type 0 where
  -- D=3 (0,-2,1): index 158, case 33, reference 1
  pub vector_158 :
      look_up 3 (pos 0, negsuc 1, pos 1) ≡ told (Ok (record { index = 158; case = 33; reference = 1; near = false }))
  -- D=1 (-3): 0, 0, 1
  pub vector_0 : look_up 1 (negsuc 2, pos 0, pos 0) ≡ told (Ok (record { index = 0; case = 0; reference = 1; near = false }))
  -- D=2 (3,3): 48, 6, 6
  pub vector_48 : look_up 2 (pos 3, pos 3, pos 0) ≡ told (Ok (record { index = 48; case = 6; reference = 6; near = false }))
  -- D=2 (1,-1): 30, 4, 0, near
  pub vector_30 : look_up 2 (pos 1, negsuc 0, pos 0) ≡ told (Ok (record { index = 30; case = 4; reference = 0; near = true }))
  -- D=2, p=2, case 3: table 2,0,3,1; inverse 1,3,0,2
  pub table : (i : ℕ) → table_call 2 2 3 (turned 2 2 3) (four i i i i) ≡ (0, four 2 0 3 1)
  pub inverse : (i : ℕ) → table_call 2 2 3 (returned 2 2 3) (four i i i i) ≡ (0, four 1 3 0 2)
  -- x=0.5: T 1, 0.5, -0.5, -1; T' 0, 1, 2, 0
  pub polynomials : (x : Float) →
      polynomials_call 4 1 true (half₆₄ ∷ []) (four x x x x) (four x x x x)
      ≡ (0, four one₆₄ half₆₄ (neg half₆₄) (neg one₆₄), four zero₆₄ one₆₄ two₆₄ zero₆₄)
  -- operator columns (1,2),(3,4) in the lower block, input (1,10), child 0: M2M 31, 42; L2L 21, 43. The upper block may hold anything.
  pub m2m : (a b c d x : Float) →
      transfer_call 1 2 0 false (two one₆₄ (float 10)) (one₆₄ ∷ two₆₄ ∷ float 3 ∷ float 4 ∷ four a b c d) (two x x) (two x x)
      ≡ (0, two one₆₄ (float 10), two (float 31) (float 42))
  pub l2l : (a b c d x : Float) →
      transfer_call 1 2 0 true (two one₆₄ (float 10)) (one₆₄ ∷ two₆₄ ∷ float 3 ∷ float 4 ∷ four a b c d) (two x x) (two x x)
      ≡ (0, two one₆₄ (float 10), two (float 21) (float 43))
  -- argmax of (1,-3,3): 1; with mask 1,0,1: 2
  pub argmax_all : argmax_call (three one₆₄ (neg (float 3)) (float 3)) (three 1 1 1) ≡ (0, some 1)
  pub argmax_masked : argmax_call (three one₆₄ (neg (float 3)) (float 3)) (three 1 0 1) ≡ (0, some 2)
  -- cutoff: (4,3) with 0.5 gives 2, with 0.75 gives 1, with 2 gives 0; (1,1,1,1) with 0.5 gives 4; (0,0) gives 2
  pub cutoff_half : cutoff_call (two (float 4) (float 3)) half₆₄ ≡ (0, some 2)
  pub cutoff_three_quarters : cutoff_call (two (float 4) (float 3)) three_quarters ≡ (0, some 1)
  pub cutoff_two : cutoff_call (two (float 4) (float 3)) two₆₄ ≡ (0, some 0)
  pub cutoff_ones : cutoff_call (four one₆₄ one₆₄ one₆₄ one₆₄) half₆₄ ≡ (0, some 4)
  pub cutoff_zeros : cutoff_call (two zero₆₄ zero₆₄) half₆₄ ≡ (0, some 2)
  -- rows (2,4),(1,2): epsilon 1 gives rank 1, U (4,2), V (0.5,1), estimate 25, stop 1
  pub cross_1 : (x : Float) (i : ℕ) →
      aca_call 2 2 (four two₆₄ one₆₄ (float 4) two₆₄) one₆₄ false (lent x i)
      ≡ call (0, some (record { rank = 1; estimate = float 25; smallest = float 4; stop = 1; rows_read = 1 }))
      (memory (four (float 4) two₆₄ x x) (four half₆₄ one₆₄ x x) (two 0 i) (two 1 i) (two half₆₄ one₆₄) (two (float 4) two₆₄))
  -- epsilon 0.5 gives the same factors, rows 0,1, stop 2
  pub cross_half : (x : Float) (i : ℕ) →
      aca_call 2 2 (four two₆₄ one₆₄ (float 4) two₆₄) half₆₄ false (lent x i)
      ≡ call (0, some (record { rank = 1; estimate = float 25; smallest = float 4; stop = 2; rows_read = 2 }))
      (memory (four (float 4) two₆₄ x x) (four half₆₄ one₆₄ x x) (two 0 1) (two 1 i) (two zero₆₄ zero₆₄) (two (float 4) two₆₄))
  -- rows (1,0),(0,1), epsilon 0.5: rank 1, rows 0,0, column 0, stop 2
  pub cross_unit : (x : Float) (i : ℕ) →
      aca_call 2 2 (four one₆₄ zero₆₄ zero₆₄ one₆₄) half₆₄ false (lent x i)
      ≡ call (0, some (record { rank = 1; estimate = one₆₄; smallest = one₆₄; stop = 2; rows_read = 2 }))
      (memory (four one₆₄ zero₆₄ x x) (four one₆₄ zero₆₄ x x) (two 0 0) (two 0 i) (two zero₆₄ zero₆₄) (two one₆₄ zero₆₄))
