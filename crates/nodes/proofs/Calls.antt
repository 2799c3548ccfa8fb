-- What the call's number says, and what the call then answers and leaves. Assumes nothing.
use mathlib.Core.Path.{◌≡◌, ◌∙◌}
use mathlib.Core.List.{List}
use Prim.Native.Nat.{ℕ, ◌≤◌}
use lib.Dec.{eqb}
use lib.Ieee.{Float}
use lib.ListN.{length}
use borrow.Author.Tests.{eqb-true, eq-eqb, ne_eqb}
use Rattle.common.specs.Lists.{tabulate}
use Rattle.common.specs.Refusals.{order_number}
use Rattle.common.proofs.Cases.{inside}
use Rattle.common.proofs.Limits.{order_in, order_out, call_refused, call_done, passed, order_passed}
use Rattle.node_rows.specs.Rows.{node}
use Rattle.nodes.specs.Nodes.{nodes_number, nodes_call}

module _ (p n : ℕ) where
  pub nodes_order : (order_number p ≡ 0 → ⊥) → order_number p ≡ nodes_number p n
  unfolding nodes_number
  nodes_order h = (order_out p h).1 ∙ rw (order_out p h).0

  pub nodes_length : order_number p ≡ 0 → (n ≡ p → ⊥) → 7 ≡ nodes_number p n
  unfolding nodes_number
  nodes_length ok d = rw (order_in p ok, ne_eqb n p d)

  pub nodes_none : order_number p ≡ 0 → n ≡ p → 0 ≡ nodes_number p n
  unfolding nodes_number
  nodes_none ok e = rw (order_in p ok, eq-eqb n p e)

  pub nodes_taken : 1 ≤ p → p ≤ 16 → n ≡ p → nodes_number p n ≡ 0
  unfolding nodes_number
  nodes_taken l u e = rw (inside 1 16 p l u, eq-eqb n p e)

  pub nodes_accepted : nodes_number p n ≡ 0 → (1 ≤ p) × (p ≤ 16) × (n ≡ p)
  unfolding nodes_number
  nodes_accepted z = let o = order_passed p _ z in (o.0, o.1, eqb-true n p (passed (eqb n p) 6 0 o.2).0)

module _ (p : ℕ) (l : List Float) (r : ℕ) (e : r ≡ nodes_number p (length l)) where
  pub nodes_refused : (r ≡ 0 → ⊥) → (r, l) ≡ nodes_call p l
  unfolding nodes_call
  nodes_refused = call_refused r _ (tabulate p (node p)) l e

  pub nodes_done : (l' : List Float) → r ≡ 0 → l' ≡ tabulate p (node p) → (0, l') ≡ nodes_call p l
  unfolding nodes_call
  nodes_done = call_done r _ (tabulate p (node p)) l e
