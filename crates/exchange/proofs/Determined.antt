-- The public contracts determine the answers and the lent memory: two results that one allows for an input coincide. Assumes nothing.
use mathlib.Core.Path.{◌≡◌, ap, sym, ◌∙◌, subst}
use mathlib.Core.HLevel.{×_prop}
use mathlib.Core.List.{List}
use mathlib.Core.Option.{Option, none, some}
use Prim.Native.Nat.{ℕ, ◌≤◌}
use native.Mathlib.Bridge.{le_prop}
use lib.Ieee.{Float}
use Rattle.std.specs.Prelude.{Result, Ok, Err}
use Rattle.common.specs.Refusals.{most_entries}
use Rattle.common.proofs.Determined.{coincide}
use Rattle.exchange_format.specs.Words.{Size}
use Rattle.exchange_format.specs.Calls.{size_from, size_call, read_call, write_call}
use Rattle.exchange_format.specs.declared.Fault.{Fault}
use Rattle.exchange_format.proofs.Handed.{same_fault}
use Rattle.exchange_lines.specs.declared.sizes.Sizes.{Sizes}
use Rattle.exchange.specs.Told.{told_sizes, told_written}

-- sizes are the same by their rows and columns: what is known of them is a proposition
abbrev Within : (m n : ℕ) → Type 0
Within m n = (m ≤ most_entries) × (n ≤ most_entries)

abbrev sized : (m n : ℕ) → Within m n → Sizes
sized m n w = record { rows = m; columns = n; within = w }

same_sizes : (s t : Sizes) → s.rows ≡ t.rows → s.columns ≡ t.columns → s ≡ t
same_sizes s t p q =
    subst (λ (n : ℕ). (w : Within t.rows n) → s ≡ sized t.rows n w) q
    (subst (λ (m : ℕ). (w : Within m s.columns) → s ≡ sized m s.columns w) p
    (λ w. ap (sized s.rows s.columns) (×_prop le_prop le_prop s.within w))) t.within

-- answers that tell the same are the same
sizes_injective : (r r' : Result Sizes Fault) → told_sizes r ≡ told_sizes r' → r ≡ r'
sizes_injective (Ok s) (Ok s') e =
    let z : some (size_from s.rows s.columns) ≡ some (size_from s'.rows s'.columns) = ap (λ (x : ℕ × ℕ × Option Size). x.2) e in
    let same : size_from s.rows s.columns ≡ size_from s'.rows s'.columns = cc in
    ap Ok (same_sizes s s' (ap (λ (x : Size). x.rows) same) (ap (λ (x : Size). x.columns) same))
sizes_injective (Ok s) (Err f) e =
    let z : some (size_from s.rows s.columns) ≡ none = ap (λ (x : ℕ × ℕ × Option Size). x.2) e in
    cc
sizes_injective (Err f) (Ok s) e =
    let z : none ≡ some (size_from s.rows s.columns) = ap (λ (x : ℕ × ℕ × Option Size). x.2) e in
    cc
sizes_injective (Err f) (Err f') e =
    ap Err (same_fault f f' (ap (λ (x : ℕ × ℕ × Option Size). x.0) e) (ap (λ (x : ℕ × ℕ × Option Size). x.1) e))

written_injective : (r r' : Result ℕ Fault) → told_written r ≡ told_written r' → r ≡ r'
written_injective (Ok n) (Ok n') e =
    let z : some n ≡ some n' = ap (λ (x : ℕ × ℕ × Option ℕ). x.2) e in
    cc
written_injective (Ok n) (Err f) e = let z : some n ≡ none = ap (λ (x : ℕ × ℕ × Option ℕ). x.2) e in cc
written_injective (Err f) (Ok n) e = let z : none ≡ some n = ap (λ (x : ℕ × ℕ × Option ℕ). x.2) e in cc
written_injective (Err f) (Err f') e =
    ap Err (same_fault f f' (ap (λ (x : ℕ × ℕ × Option ℕ). x.0) e) (ap (λ (x : ℕ × ℕ × Option ℕ). x.1) e))

read_block_determined : (text : List ℕ) (block a a' : List Float) (r r' : Result Sizes Fault) → (told_sizes r, a) ≡ read_call text block →
    (told_sizes r', a') ≡ read_call text block → (r ≡ r') × (a ≡ a')
read_block_determined text block a a' r r' e e' =
    let both = coincide (told_sizes r, a) (told_sizes r', a') (read_call text block) e e' in (
      sizes_injective r r' (ap (λ (x : (ℕ × ℕ × Option Size) × List Float). x.0) both),
      ap (λ (x : (ℕ × ℕ × Option Size) × List Float). x.1) both,
    )

block_size_determined : (text : List ℕ) (r r' : Result Sizes Fault) → told_sizes r ≡ size_call text →
    told_sizes r' ≡ size_call text → r ≡ r'
block_size_determined text r r' e e' = sizes_injective r r' (e ∙ sym e')

write_block_determined : (rows columns : ℕ) (block : List Float) (text t t' : List ℕ) (r r' : Result ℕ Fault) →
    (told_written r, t) ≡ write_call rows columns block text → (told_written r', t') ≡ write_call rows columns block text →
    (r ≡ r') × (t ≡ t')
write_block_determined rows columns block text t t' r r' e e' =
    let both = coincide (told_written r, t) (told_written r', t') (write_call rows columns block text) e e' in
    (written_injective r r' (ap (λ (x : (ℕ × ℕ × Option ℕ) × List ℕ). x.0) both), ap (λ (x : (ℕ × ℕ × Option ℕ) × List ℕ). x.1) both)
