-- The table's row of an order, which is copied, holds the nodes of that order. Assumes nothing.
use mathlib.Core.Path.{◌≡◌, refl, sym, ap, ◌∙◌}
use mathlib.Core.List.{List}
use Prim.Native.Nat.{ℕ, ◌+◌, ◌-◌, ◌<◌, ◌≤◌}
use native.Mathlib.Nat.{mul-le-mul}
use native.Mathlib.Omega.{arith}
use lib.Ieee.{Float, nan}
use lib.ListN.{length, get_or, take, drop}
use lib.Seq.{ext_get_or}
use Rattle.common.specs.Lists.{tabulate, stretch}
use Rattle.common.proofs.Fill.{length_tabulate, get_d_tabulate, part_length, part_read, fill_all, listed}
use Rattle.node_rows.specs.Rows.{entry, start, node}

pub row_fits : (p : ℕ) → 1 ≤ p → p ≤ 16 → start p + p ≤ 136
row_fits p least most =
    let square = mul-le-mul {n₁ = p} {m₁ = p - 1} {n₂ = 16} {m₂ = 15} most (omega arith) in omega arith

pub row_right : (p : ℕ) (table : List Float) → 1 ≤ p → p ≤ 16 → table ≡ tabulate 136 entry →
    take (start p + p - start p) (drop (start p) table) ≡ tabulate p (node p)
row_right p table least most e =
    let fits = row_fits p least most in
    let whole : length table ≡ 136 = rw (e, length_tabulate) in
    let long : length (take (start p + p - start p) (drop (start p) table)) ≡ p =
    part_length (start p) (start p + p) p table refl (omega arith) in
    ext_get_or nan _ _ (long ∙ sym (length_tabulate p (node p)))
    (λ i b. let low : i < p = rw long at b in
    part_read (start p) (start p + p) p table i nan refl low
    ∙ ap (λ (l : List Float). get_or l (start p + i) nan) e
    ∙ get_d_tabulate 136 entry (start p + i) nan (omega arith)
    ∙ sym (get_d_tabulate p (node p) i nan low))

-- a buffer into which the row is copied
pub row_copied : (p : ℕ) (table nodes : List Float) → 1 ≤ p → p ≤ 16 → table ≡ tabulate 136 entry → length nodes ≡ p →
    stretch 0 p (λ i. get_or (take (start p + p - start p) (drop (start p) table)) i nan) nodes ≡ tabulate p (node p)
row_copied p table nodes least most e long =
    let fits = row_fits p least most in
    let whole : length table ≡ 136 = rw (e, length_tabulate) in
    let row = take (start p + p - start p) (drop (start p) table) in
    fill_all p (λ i. get_or row i nan) nodes long ∙ listed row p nan (part_length (start p) (start p + p) p table refl (omega arith))
    ∙ row_right p table least most e
