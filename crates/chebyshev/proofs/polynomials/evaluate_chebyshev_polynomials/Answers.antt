-- `chebyshev::polynomials::evaluate_chebyshev_polynomials` meets its contract: refused, or filled with or without derivatives. Assumes
-- nothing.
use mathlib.Core.Path.{sym, refl, ap, ◌∙◌}
use mathlib.Core.Bool.{Bool, cond}
use mathlib.Core.List.{[]}
use Prim.Native.Nat.{◌*◌}
use native.Mathlib.Omega.{arith}
use lib.ListN.{length}
use Rattle.common.specs.Refusals.{size_if}
use Rattle.common.proofs.Numbers.{handed_on, number_above}
use Rattle.polynomial_columns.specs.Recurrence.{T'}
use Rattle.chebyshev.specs.Polynomials.{at_points}
use Rattle.chebyshev.proofs.Calls.{Lengths, polynomials_accepted, polynomials_refused, polynomials_done, none}
use Rattle.chebyshev.proofs.polynomials.evaluate_chebyshev_polynomials.Goals.{In_ok-check_polynomials}
use Rattle.chebyshev.proofs.polynomials.evaluate_chebyshev_polynomials.Goals as goal

-- past the first test the lengths are as stated
ok : (c : In_ok-check_polynomials) →
    let a = c.args in
    Lengths a.order a.rows a.with_derivatives (length a.points.now) (length a.tn.now) (length a.dtn.now)
ok c = let a = c.args in polynomials_accepted a.order a.rows a.with_derivatives _ _ _ (sym c.in_ok-check_polynomials.ensures)

pub returns-in_err-check_polynomials : goal.returns-in_err-check_polynomials
returns-in_err-check_polynomials c =
    let a = c.args in
    let e = handed_on _ _ c.from_residual.ensures.1 in
    polynomials_refused a.order a.rows a.with_derivatives a.points.now a.tn.now a.dtn.now _
    (e ∙ c.in_err-check_polynomials.ensures) (λ z. omega (arith, number_above c.in_err-check_polynomials.field-0.0, e, z))

pub fill_both-requires : goal.fill_both-requires
fill_both-requires c =
    let a = c.args in
    let h = ok (goal.at.fill_both-requires c).In_ok-check_polynomials in
    rw h.points (h.values, h.slopes ∙ ap (λ (t : Bool). size_if t (a.order * a.rows)) c.if-with_derivatives.true)

pub fill_polynomials-requires : goal.fill_polynomials-requires
fill_polynomials-requires c =
    let h = ok (goal.at.fill_polynomials-requires c).In_ok-check_polynomials in rw h.points h.values

pub returns-then-with_derivatives : goal.returns-then-with_derivatives
returns-then-with_derivatives c =
    let a = c.args in
    let h = ok (goal.at.returns-then-with_derivatives c).In_ok-check_polynomials in
    let filled = rw h.points at c.fill_both.ensures in
    polynomials_done a.order a.rows a.with_derivatives a.points.now a.tn.now a.dtn.now _
    c.in_ok-check_polynomials.ensures _ _ refl filled.0
    (filled.1 ∙ ap (λ (t : Bool). cond t
    (at_points T' a.order a.rows a.points.now) []) (sym c.if-with_derivatives.true))

pub returns-else-with_derivatives : goal.returns-else-with_derivatives
returns-else-with_derivatives c =
    let a = c.args in
    let h = ok (goal.at.returns-else-with_derivatives c).In_ok-check_polynomials in
    let filled = rw h.points at c.fill_polynomials.ensures in
    let empty = h.slopes ∙ ap (λ (t : Bool). size_if t (a.order * a.rows)) c.if-with_derivatives.false in
    polynomials_done a.order a.rows a.with_derivatives a.points.now a.tn.now a.dtn.now _
    c.in_ok-check_polynomials.ensures _ _ refl filled
    (none a.dtn.now empty ∙ ap (λ (t : Bool). cond t (at_points T' a.order a.rows a.points.now) []) (sym c.if-with_derivatives.false))
