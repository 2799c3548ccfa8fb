-- The contract of this crate's function determines what it leaves. Assumes nothing.
use mathlib.Core.Path.{◌≡◌}
use mathlib.Core.List.{List}
use Prim.Native.Nat.{ℕ}
use lib.Ieee.{Float}
use Rattle.common.proofs.Determined.{coincide}
use Rattle.fields.specs.Fields.{air_at}
use Rattle.fields.specs.Working.{told_of}

module _ (N P : ℕ) (floor : Float) (v c n o ratios : List Float) where
  abbrev told : List ℕ × List Float
  told = told_of P (air_at N P floor v c n o) ratios

  fill_answers_determined : (m m' : List ℕ × List Float) → m ≡ told → m' ≡ told → m ≡ m'
  fill_answers_determined m m' = coincide m m' told
