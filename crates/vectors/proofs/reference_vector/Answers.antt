-- `vectors::reference_vector` meets its contract: the tables are the references. Assumes nothing.
use mathlib.Core.Path.{◌≡◌, refl, sym}
use mathlib.Core.List.{List}
use mathlib.Core.Option.{none, some}
use Prim.Native.Nat.{ℕ, ◌<◌, ◌≤◌}
use native.Mathlib.Omega.{arith}
use lib.ListN.{length, get_or}
use borrow.Author.Tests.{ltb-true, ltb-false}
use Rattle.std.specs.Borrow.{Bor}
use Rattle.std.specs.Prelude.{Option, Some, None}
use Rattle.std.specs.Option.{ok_or, option_copied}
use Rattle.std.specs.Slice.{IsItemAt}
use Rattle.common.specs.Numbers.{told}
use Rattle.common.specs.declared.refusals.Refusal.TheVariants.{NoCase}
use Rattle.vectors.specs.declared.Vector.{Vector}
use Rattle.vectors.specs.LookUps.{reference_call}
use Rattle.vectors.proofs.Listed.{references_1, references_2, references_3, many_1, many_2, many_3, found, refused, no_dimension}
use Rattle.vectors.proofs.reference_vector.Goals.{in-1, in-2, in-3}
use Rattle.vectors.proofs.reference_vector.Goals as goal

-- an entry of a list, or a refusal where there is none
got : (D i : ℕ) (l : List Vector) (g : Option (Bor Vector)) → IsItemAt l i g →
    ((w : Vector) → i < length l → (0, some (get_or l i w)) ≡ reference_call D i) → (length l ≤ i → (5, none) ≡ reference_call D i) →
    told (ok_or (option_copied g) NoCase) ≡ reference_call D i
got D i l None h there past = past (ltb-false i (length l) (sym h.0))
got D i l (Some x) h there past =
    let item : x.now ≡ get_or l i x.now = h.1 in
    rw (← item) at (there x.now (ltb-true i (length l) (sym h.0)))

pub returns-in_default : goal.returns-in_default
returns-in_default c = no_dimension c.args.dimension c.args.number (λ e. omega arith) (λ e. omega arith) (λ e. omega arith)

pub returns : goal.returns
returns c =
    let D = c.args.dimension in
    let i = c.args.number in
    rw (c.ok_or.ensures.value, c.copied.ensures)
    (elim c.match-dimension.branch [
      | in-1 w ↦ got D i references_1 c.get.result (rw w.references-is at c.get.ensures.lookup)
          (λ v b. found D 0 i 2 references_1 (omega arith) w.in-1.is refl many_1 v b)
          (λ b. refused D 0 i 2 references_1 (omega arith) w.in-1.is refl many_1 b)
      | in-2 w ↦ got D i references_2 c.get.result (rw w.references-is at c.get.ensures.lookup)
          (λ v b. found D 1 i 7 references_2 (omega arith) w.in-2.is refl many_2 v b)
          (λ b. refused D 1 i 7 references_2 (omega arith) w.in-2.is refl many_2 b)
      | in-3 w ↦ got D i references_3 c.get.result (rw w.references-is at c.get.ensures.lookup)
          (λ v b. found D 2 i 16 references_3 (omega arith) w.in-3.is refl many_3 v b)
          (λ b. refused D 2 i 16 references_3 (omega arith) w.in-3.is refl many_3 b)
    ])
