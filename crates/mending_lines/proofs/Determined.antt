-- The contracts of this crate determine what their calls answer and leave. Assumes nothing.
use mathlib.Core.Path.{◌≡◌}
use mathlib.Core.Bool.{Bool}
use mathlib.Core.List.{List}
use Prim.Native.Nat.{ℕ}
use lib.Dec.{eqb}
use lib.ListN.{drop}
use Rattle.common.proofs.Determined.{coincide}
use Rattle.text.specs.Text.{put}
use Rattle.vectors.specs.declared.Known.{Known}
use Rattle.mending_lines.specs.Records.{kept_line, places}
use Rattle.mending_lines.specs.Working.{changed_later}

is_same_determined : (old new : ℕ) (r r' : Bool) → r ≡ eqb old new → r' ≡ eqb old new → r ≡ r'
is_same_determined old new r r' = coincide r r' (eqb old new)

module _ (text exit exit' : List ℕ) (to r r' : ℕ) where
  put_kept_determined : (r, exit) ≡ put to kept_line text → (r', exit') ≡ put to kept_line text →
      ◌≡◌ {A = ℕ × List ℕ} (r, exit) (r', exit')
  put_kept_determined = coincide (r, exit) (r', exit') (put to kept_line text)

  put_places_determined : (known : Known) (input : List ℕ) (at : ℕ) →
      (r, exit) ≡ put to (places (changed_later known (drop at input))) text →
      (r', exit') ≡ put to (places (changed_later known (drop at input))) text → ◌≡◌ {A = ℕ × List ℕ} (r, exit) (r', exit')
  put_places_determined known input at = coincide (r, exit) (r', exit') (put to (places (changed_later known (drop at input))) text)
