-- What mending says of a record that is mended already, and of an all-zero one. Assumes nothing.
use mathlib.Core.Path.{◌≡◌, refl}
use mathlib.Core.Logic.{◌⊎◌, inl, inr}
use mathlib.Core.Bool.{false}
use mathlib.Core.List.{List, [], ◌++◌}
use mathlib.Core.Option.{Option, none, some}
use Prim.Native.Nat.{ℕ, ◌<◌}
use native.Mathlib.Omega.{arith}
use lib.ListN.{get_or, replicate, get_or-append}
use borrow.Author.Tests.{eq-eqb}
use Rattle.common.specs.Tests.{those}
use Rattle.vectors.specs.declared.Known.{Known}
use Rattle.vectors.specs.LookUps.{look_up, look_up_number}
use Rattle.records.specs.Text.{signed}
use Rattle.mending_lines.specs.Records.{found, right_for, right, differs, changed, kept, blanked, taken, verdict_for, verdict}
use Rattle.mending.proofs.Records.{for_size, for_right, those_same}

-- an all-zero record is blanked with number 1, whatever follows it
pub zero_blanked : (rest : List ℕ) → verdict (replicate 8 0 ++ rest) ≡ blanked 1
unfolding verdict verdict_for found look_up look_up_number signed
zero_blanked rest = refl

-- two lists that agree have no changed place
nothing : (old new : List ℕ) → ((k : ℕ) → k < 8 → get_or old k 0 ≡ get_or new k 0) → changed old new ≡ []
unfolding changed differs those
nothing old new h =
    those_same 8 (differs old new) (λ k. false) (λ k b. rw (eq-eqb (get_or old k 0) (get_or new k 0) (h k b)))

again_for : (f : ℕ × Option Known) (l rest : List ℕ) → found l ≡ f →
    (verdict (right_for f l ++ rest) ≡ kept) ⊎ (verdict (right_for f l ++ rest) ≡ blanked 1)
unfolding verdict verdict_for taken found right_for look_up look_up_number signed
again_for (n, none) l rest h = inr refl
again_for (n, some k) l rest h =
    let new = right_for (n, some k) l in
    let size = for_size (n, some k) l in
    let none = nothing (new ++ rest) new (λ k b. get_or-append new rest 0 k (omega arith)) in
    inl (rw (for_right (n, some k) l rest h, none, h))

-- a mended record, looked at again, is kept, or is all zero and blanked with number 1
pub right_again : (l rest : List ℕ) → (verdict (right l ++ rest) ≡ kept) ⊎ (verdict (right l ++ rest) ≡ blanked 1)
unfolding right
right_again l rest = again_for (found l) l rest refl
