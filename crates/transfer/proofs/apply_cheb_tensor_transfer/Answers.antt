-- `transfer::apply_cheb_tensor_transfer` meets its contract: refused, or the passes from a copy of the input. Assumes nothing.
use mathlib.Core.Path.{sym, refl, ◌∙◌}
use native.Mathlib.Omega.{arith}
use borrow.Author.Rules.{rules}
use lib.ListN.{length}
use Rattle.common.proofs.Numbers.{handed_on, number_above}
use Rattle.transfer.proofs.Axes.{copied}
use Rattle.transfer.proofs.Calls.{Accepted, transfer_shape, transfer_accepted, transfer_refused, transfer_done}
use Rattle.transfer.proofs.apply_cheb_tensor_transfer.Goals.{In_ok-check_transfer}
use Rattle.transfer.proofs.apply_cheb_tensor_transfer.Goals as goal

-- past the tests the lengths are as stated
ok : (c : In_ok-check_transfer) →
    let a = c.args in
    let s = c.in_ok-shape.shape in
    Accepted s.dimension s.order a.child (length a.input.now) (length a.operators.now) (length a.first.now) (length a.second.now)
ok c = let s = c.in_ok-shape.shape in transfer_accepted s.dimension s.order c.args.child _ _ _ _ (sym c.in_ok-check_transfer.ensures)

pub returns-in_err-shape : goal.returns-in_err-shape
returns-in_err-shape c =
    let a = c.args in
    let e = c.in_err-shape.ensures.number in
    let told = handed_on _ _ c.from_residual.ensures.1 in
    transfer_refused a.dimension a.order a.child a.transpose a.input.now a.operators.now a.first.now a.second.now _
    (told ∙ e ∙ transfer_shape a.dimension a.order a.child _ _ _ _ (λ z. omega (arith, number_above c.in_err-shape.field-0.0, e ∙ z)))
    (λ z. omega (arith, number_above c.in_err-shape.field-0.0, told, z))

pub returns-in_err-check_transfer : goal.returns-in_err-check_transfer
returns-in_err-check_transfer c =
    let a = c.args in
    let s = c.in_ok-shape.ensures.shape in
    let e = handed_on _ _ c.from_residual-in_err-check_transfer.ensures.1 in
    transfer_refused a.dimension a.order a.child a.transpose a.input.now a.operators.now a.first.now a.second.now _
    (e ∙ rw (s.0, s.1) at c.in_err-check_transfer.ensures)
    (λ z. omega (arith, number_above c.in_err-check_transfer.field-0.0, e, z))

pub copy_column-requires : goal.copy_column-requires
copy_column-requires c =
    let h = ok (goal.at.copy_column-requires c).In_ok-check_transfer in (search rules, omega (arith, h.input, h.first))

pub transfer_axes-requires : goal.transfer_axes-requires
transfer_axes-requires c =
    let h = ok (goal.at.transfer_axes-requires c).In_ok-check_transfer in (h.operators, c.copy_column.auto.column ∙ h.first, h.second)

pub returns : goal.returns
returns c =
    let a = c.args in
    let s = c.in_ok-shape.ensures.shape in
    let h = ok (goal.at.returns c).In_ok-check_transfer in
    transfer_done a.dimension a.order a.child a.transpose a.input.now a.operators.now a.first.now a.second.now _
    (rw (s.0, s.1) at c.in_ok-check_transfer.ensures) _ _ _ refl
    (c.copy_column.ensures ∙ copied a.input.now a.first.now (h.first ∙ sym h.input))
    (rw (s.0, s.1) at c.transfer_axes.ensures)
