-- `choices_told::tell_place` meets its contract: a refusal is handed on, and a place is stored. Assumes nothing.
use mathlib.Core.Path.{◌≡◌, refl}
use mathlib.Core.List.{[], ◌∷◌}
use native.Mathlib.Omega.{arith}
use lib.ListN.{length}
use borrow.Author.Tests.{eqb-true}
use Rattle.common.proofs.Numbers.{handed_on, number_above}
use Rattle.answers.proofs.Lengths.{written_done, stored_one}
use Rattle.choices_told.specs.Working.{place_told}
use Rattle.choices_told.proofs.Places.{place_refused}
use Rattle.choices_told.proofs.tell_place.Goals as goal

pub returns-in_err-at : goal.returns-in_err-at
returns-in_err-at c =
    let place = c.args.place.now in
    let r = c.in_err-at.field-0.0 in
    rw (handed_on _ _ c.from_residual.ensures.1) (place_refused c.args.found place _ c.in_err-at.ensures.number (number_above r))

pub bounds-place-0 : goal.bounds-place-0
bounds-place-0 c =
    let one : length c.args.place.now ≡ 1 = eqb-true _ _ c.in_ok-at.ensures.values.1 in
    omega arith

pub returns : goal.returns
unfolding place_told
returns c =
    let place = c.args.place.now in
    let at = c.in_ok-at.at in
    let values = c.in_ok-at.ensures.values in
    rw values.0 (written_done (at ∷ []) place 0 _ refl values.1 (stored_one place at (eqb-true _ _ values.1)))
