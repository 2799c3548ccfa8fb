-- What the call's number says, and what the call then answers and leaves. Assumes nothing.
use mathlib.Core.Path.{◌≡◌, ◌∙◌}
use mathlib.Core.List.{List}
use Prim.Native.Nat.{ℕ, ◌+◌, ◌*◌, ◌≤◌}
use lib.Ieee.{Float}
use lib.ListN.{length}
use borrow.Author.Tests.{eqb-true, eq-eqb, ne_eqb}
use Rattle.common.specs.Matrices.{column_major}
use Rattle.common.specs.Refusals.{order_number}
use Rattle.common.proofs.Cases.{equal_and}
use Rattle.common.proofs.Limits.{order_in, order_out, call_refused, call_done, passed, order_passed}
use Rattle.operators.specs.Operators.{operator, operators_number, operators_call}

-- the lengths are as stated
pub record Lengths (p n t o : ℕ) : Type 0 where
  pub order_least : 1 ≤ p
  pub order_most : p ≤ 16
  pub nodes : n ≡ p
  pub polynomials : t ≡ p * p
  pub operators : o ≡ (p + p) * p

module _ (p n t o : ℕ) where
  pub operators_order : (order_number p ≡ 0 → ⊥) → order_number p ≡ operators_number p n t o
  unfolding operators_number
  operators_order h = (order_out p h).1 ∙ rw (order_out p h).0

  module _ (ok : order_number p ≡ 0) where
    pub operators_nodes : (n ≡ p → ⊥) → 7 ≡ operators_number p n t o
    unfolding operators_number
    operators_nodes h = rw (order_in p ok, ne_eqb n p h)

    pub operators_polynomials : n ≡ p → (t ≡ p * p → ⊥) → 7 ≡ operators_number p n t o
    unfolding operators_number
    operators_polynomials e h = rw (order_in p ok, eq-eqb n p e, ne_eqb t (p * p) h)

    pub operators_length : n ≡ p → t ≡ p * p → (o ≡ (p + p) * p → ⊥) → 7 ≡ operators_number p n t o
    unfolding operators_number
    operators_length e e' h = rw (order_in p ok, eq-eqb n p e, eq-eqb t (p * p) e', ne_eqb o ((p + p) * p) h)

    pub operators_none : n ≡ p → t ≡ p * p → o ≡ (p + p) * p → 0 ≡ operators_number p n t o
    unfolding operators_number
    operators_none e e' e'' = rw (order_in p ok, eq-eqb n p e, eq-eqb t (p * p) e', eq-eqb o ((p + p) * p) e'')

  pub operators_accepted : operators_number p n t o ≡ 0 → Lengths p n t o
  unfolding operators_number
  operators_accepted z =
      let order = order_passed p _ z in
      let a = equal_and n p _ (passed _ 6 0 order.2).0 in
      let b = equal_and t (p * p) _ a.1 in
      record { order_least = order.0; order_most = order.1; nodes = a.0; polynomials = b.0; operators = eqb-true _ _ b.1 }

module _ (p : ℕ) (n t o : List Float) (r : ℕ) (e : r ≡ operators_number p (length n) (length t) (length o)) where
  pub operators_refused : (r ≡ 0 → ⊥) → (r, o) ≡ operators_call p n t o
  unfolding operators_call
  operators_refused = call_refused r _ (column_major p (p + p) (operator p n t)) o e

  pub operators_done : (o' : List Float) → r ≡ 0 → o' ≡ column_major p (p + p) (operator p n t) → (0, o') ≡ operators_call p n t o
  unfolding operators_call
  operators_done = call_done r _ (column_major p (p + p) (operator p n t)) o e
