-- The contract of a pass determines what it leaves. Assumes nothing.
use mathlib.Core.Path.{◌≡◌}
use mathlib.Core.Bool.{Bool}
use mathlib.Core.List.{List}
use Prim.Native.Nat.{ℕ}
use lib.Ieee.{Float}
use Rattle.common.specs.Matrices.{matrix}
use Rattle.common.proofs.Determined.{coincide}
use Rattle.passes.specs.Passes.{passed, directed}

module _ (order width : ℕ) (values block : List Float) (transpose : Bool) (exit exit' : List Float) where
  abbrev made : List Float
  made = passed order width (matrix order values) (directed transpose (matrix order block))

  pass_determined : exit ≡ made → exit' ≡ made → exit ≡ exit'
  pass_determined = coincide exit exit' made
