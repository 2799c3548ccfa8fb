-- What the theorems on mending speak of: when a record is right, which places a list names, and how many records have a verdict.
use Rattle.std.specs.Prelude.{◌≡◌, ◌⊎◌, List, ℕ, suc, ◌<◌, length, get_or, replicate}
use Rattle.std.proofs.Math.Option.{some}
use Rattle.vectors.specs.declared.Known.{Known}
use Rattle.mending_lines.specs.Records.{found}

-- its vector is taken, and its later bytes are the case, the reference and two zeros
pub record LookedUp (bytes : List ℕ) : Type 0 where
  pub known : Known
  pub taken : found bytes ≡ (0, some known)
  pub size : length bytes ≡ 8
  pub case_byte : get_or bytes 4 0 ≡ known.case
  pub reference_byte : get_or bytes 5 0 ≡ known.reference
  pub first_zero : get_or bytes 6 0 ≡ 0
  pub second_zero : get_or bytes 7 0 ≡ 0

-- a record is right: that, or eight zeros
abbrev pub IsRight : (bytes : List ℕ) → Type 0
IsRight l = (l ≡ replicate 8 0) ⊎ LookedUp l

-- k stands in the list
pub record Named (ks : List ℕ) (k : ℕ) : Type 0 where
  pub at : ℕ
  pub on : at < length ks
  pub is : get_or ks at 0 ≡ k

-- a list names exactly the bytes of a record that differ between two lists
pub record Exactly (ks old new : List ℕ) : Type 0 where
  pub within : (k : ℕ) → Named ks k → k < 8
  pub only : (k : ℕ) → Named ks k → get_or old k 0 ≡ get_or new k 0 → ⊥
  pub all : (k : ℕ) → k < 8 → (get_or old k 0 ≡ get_or new k 0 → ⊥) → Named ks k
  pub rising : (i : ℕ) → suc i < length ks → get_or ks i 0 < get_or ks (suc i) 0
