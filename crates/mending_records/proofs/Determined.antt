-- The contracts of this crate determine what their calls answer and leave. Assumes nothing.
use mathlib.Core.Path.{◌≡◌}
use mathlib.Core.List.{List}
use Prim.Native.Nat.{ℕ, ◌+◌}
use lib.ListN.{get_or, drop}
use Rattle.common.proofs.Determined.{coincide}
use Rattle.text.specs.Text.{put}
use Rattle.std.specs.Prelude.{Result}
use Rattle.common.specs.Numbers.{told}
use Rattle.common.specs.declared.refusals.Refusal.{Refusal}
use Rattle.vectors.specs.declared.Known.{Known}
use Rattle.vectors.proofs.Determined.{look_up_determined}
use Rattle.records.specs.Text.{vector}
use Rattle.mending_lines.specs.Records.{found, right, verdict, line}

look_determined : (input : List ℕ) (at : ℕ) (r r' : Result Known Refusal) → told r ≡ found (drop at input) →
    told r' ≡ found (drop at input) → r ≡ r'
unfolding found
look_determined input at =
    let l = drop at input in look_up_determined (get_or l 0 0) (vector (get_or l 1 0) (get_or l 2 0) (get_or l 3 0))

store_right_determined : (input output exit exit' : List ℕ) (at : ℕ) → (at + 8, exit) ≡ put at (right (drop at input)) output →
    (at + 8, exit') ≡ put at (right (drop at input)) output → ◌≡◌ {A = ℕ × List ℕ} (at + 8, exit) (at + 8, exit')
store_right_determined input output exit exit' at = coincide (at + 8, exit) (at + 8, exit') (put at (right (drop at input)) output)

put_verdict_determined : (input text exit exit' : List ℕ) (to at r r' : ℕ) → (r, exit) ≡ put to (line (verdict (drop at input))) text →
    (r', exit') ≡ put to (line (verdict (drop at input))) text → ◌≡◌ {A = ℕ × List ℕ} (r, exit) (r', exit')
put_verdict_determined input text exit exit' to at r r' =
    coincide (r, exit) (r', exit') (put to (line (verdict (drop at input))) text)
