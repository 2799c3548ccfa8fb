-- The public contract determines the answer and the lent memory: two outcomes that it allows for an input coincide. Assumes nothing.
use mathlib.Core.Path.{◌≡◌, sym, ap, ◌∙◌}
use mathlib.Core.Bool.{Bool}
use mathlib.Core.List.{List}
use Prim.Native.Nat.{ℕ}
use lib.Ieee.{Float}
use Rattle.std.specs.Prelude.{Result}
use Rattle.common.specs.Numbers.{told_number}
use Rattle.common.specs.declared.refusals.Refusal.{Refusal}
use Rattle.common.proofs.Numbers.{number_told_same}
use Rattle.transfer.specs.Tensor.{transfer_call}

-- a number, and two lists
abbrev Told : Type 0
Told = ℕ × List Float × List Float

module _ (dimension order child : ℕ) (transpose : Bool) (input operators first second f f' s s' : List Float)
    (r r' : Result Unit Refusal) where
  apply_cheb_tensor_transfer_determined :
      (told_number r, f, s) ≡ transfer_call dimension order child transpose input operators first second →
      (told_number r', f', s') ≡ transfer_call dimension order child transpose input operators first second →
      ◌≡◌ {A = Result Unit Refusal × List Float × List Float} (r, f, s) (r', f', s')
  apply_cheb_tensor_transfer_determined e e' =
      let same = e ∙ sym e' in
      let answers = number_told_same r r' (ap (λ (t : Told). t.0) same) in
      let firsts : f ≡ f' = ap (λ (t : Told). t.1) same in
      let seconds : s ≡ s' = ap (λ (t : Told). t.2) same in
      cc
