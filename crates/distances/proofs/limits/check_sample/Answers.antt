-- `distances::limits::check_sample` meets its contract: each return by the tests that led there. Assumes nothing.
use mathlib.Core.Bool.{true}
use mathlib.Core.Path.{◌≡◌, sym, ◌∙◌}
use Prim.Native.Nat.{◌^◌, ◌≤◌}
use lib.Dec.{ltb}
use lib.ListN.{length}
use Rattle.common.specs.Refusals.{is_dimension, most_entries}
use Rattle.common.proofs.Cases.{inside}
use Rattle.common.proofs.Numbers.{handed_on}
use Rattle.vectors.specs.Vectors.{references}
use Rattle.vectors.proofs.Listed.{reference_found}
use Rattle.points.proofs.Calls.{case_refused}
use Rattle.distances.proofs.Calls.{number_count, number_case, number_length, number_cell, number_none}
use Rattle.distances.proofs.limits.check_sample.Goals.{Else-rows-gt-MOST_ENTRIES, In_ok-reference_vector, Start}
use Rattle.distances.proofs.limits.check_sample.Goals as goal

-- WHAT HOLDS past each test

few : (c : Else-rows-gt-MOST_ENTRIES) → let s = c.args.shape in s.order ^ s.dimension ≤ most_entries
few c = rw c.nodes-rows.ensures at c.if-rows-gt-MOST_ENTRIES.false

dimension : (c : Start) → is_dimension c.args.shape.dimension ≡ true
dimension c = let s = c.args.shape in inside 1 3 s.dimension s.taken.dimension_least s.taken.dimension_most

there : (c : In_ok-reference_vector) → is_dimension c.args.shape.dimension ≡ true →
    ltb c.args.reference (length (references c.args.shape.dimension)) ≡ true
there c d = (reference_found _ _ _ c.reference_vector.ensures d _ c.in_ok-reference_vector.was).0

-- THE RETURNS

pub returns-then-rows-gt-MOST_ENTRIES : goal.returns-then-rows-gt-MOST_ENTRIES
returns-then-rows-gt-MOST_ENTRIES c =
    number_count _ _ _ _ _ c.args.shape.taken (rw c.nodes-rows.ensures at c.if-rows-gt-MOST_ENTRIES.true)

pub returns-in_err-reference_vector : goal.returns-in_err-reference_vector
returns-in_err-reference_vector c =
    let at = goal.at.returns-in_err-reference_vector c in
    let none = case_refused _ _ _ c.reference_vector.ensures (dimension at.Start) _ c.in_err-reference_vector.was in
    handed_on _ _ c.from_residual.ensures.1 ∙ none.0
    ∙ number_case _ _ _ _ _ c.args.shape.taken (few at.Else-rows-gt-MOST_ENTRIES) none.1

pub lengths_fit-requires : goal.lengths_fit-requires
lengths_fit-requires c = few (goal.at.lengths_fit-requires c).Else-rows-gt-MOST_ENTRIES

pub returns-then-not-lengths_fit : goal.returns-then-not-lengths_fit
returns-then-not-lengths_fit c =
    let at = goal.at.returns-then-not-lengths_fit c in
    number_length _ _ _ _ _ c.args.shape.taken (few at.Else-rows-gt-MOST_ENTRIES) (there at.In_ok-reference_vector (dimension at.Start))
    (sym c.lengths_fit.ensures ∙ c.if-not-lengths_fit.true)

pub returns-then-not-is_cell : goal.returns-then-not-is_cell
returns-then-not-is_cell c =
    let at = goal.at.returns-then-not-is_cell c in
    number_cell _ _ _ _ _ c.args.shape.taken (few at.Else-rows-gt-MOST_ENTRIES) (there at.In_ok-reference_vector (dimension at.Start))
    (sym c.lengths_fit.ensures ∙ c.if-not-lengths_fit.false) (sym c.is_cell.ensures ∙ c.if-not-is_cell.true)

pub returns : goal.returns
returns c =
    let at = goal.at.returns c in
    number_none _ _ _ _ _ c.args.shape.taken (few at.Else-rows-gt-MOST_ENTRIES) (there at.In_ok-reference_vector (dimension at.Start))
    (sym c.lengths_fit.ensures ∙ c.if-not-lengths_fit.false) (sym c.is_cell.ensures ∙ c.if-not-is_cell.false)
