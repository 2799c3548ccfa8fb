-- What the call that takes a set answers and leaves: an unknown set, and a known one, for which the call with no set is made first.
-- Assumes nothing.
use mathlib.Core.Path.{◌≡◌, refl, sym, ap, ◌∙◌}
use mathlib.Core.List.{List}
use Prim.Native.Nat.{ℕ, ◌<◌, ◌≤◌}
use native.Mathlib.Omega.{arith}
use lib.Dec.{leb, eqb}
use lib.Ieee.{Float}
use lib.ListN.{length}
use borrow.Author.Tests.{le-leb, lt-leb, eq-eqb}
use Rattle.common.specs.Lists.{tabulate}
use Rattle.common.specs.Refusals.{no_set, unless, is_order, left}
use Rattle.common.proofs.Cases.{inside, by_bool}
use Rattle.common.proofs.Limits.{left_done, left_refused, call_refused, call_done}
use Rattle.node_rows.specs.Rows.{node}
use Rattle.nodes.specs.Nodes.{nodes_number, nodes_call}
use Rattle.nodes.specs.Sets.{mirrored, node_of, set_number, set_call}
use Rattle.nodes.proofs.Calls.{nodes_accepted}

-- THE NUMBER

module _ (p set n : ℕ) where
  -- the order and the length are tested as in the call with no set
  set_shape : (nodes_number p n ≡ 0 → ⊥) → nodes_number p n ≡ set_number p set n
  unfolding nodes_number set_number
  set_shape h =
      by_bool (is_order p)
      (λ o. by_bool (eqb n p) (λ e. absurd (h (rw (o, e)))) (λ e. rw (o, e)))
      (λ o. rw o)

  set_past : nodes_number p n ≡ 0 → set_number p set n ≡ unless (leb set 1) no_set 0
  unfolding set_number
  set_past z = let t = nodes_accepted p n z in rw (inside 1 16 p t.0 t.1, eq-eqb n p t.2)

-- A REFUSAL

module _ (p set : ℕ) (l : List Float) where
  pub set_refused : (r : ℕ) → r ≡ nodes_number p (length l) → (r ≡ 0 → ⊥) → (r, l) ≡ set_call p set l
  unfolding set_call
  set_refused r e h = call_refused r _ (tabulate p (node_of set p)) l (e ∙ set_shape p set (length l) (λ z. h (e ∙ z))) h

  pub set_unknown : nodes_number p (length l) ≡ 0 → 1 < set → (17, l) ≡ set_call p set l
  unfolding set_call
  set_unknown z u =
      call_refused 17 _ (tabulate p (node_of set p)) l (rw (set_past p set (length l) z, lt-leb set 1 u)) (λ w. omega arith)

  -- A KNOWN SET: the buffer at the end
  pub set_known : (after : List Float) → nodes_number p (length l) ≡ 0 → set ≤ 1 → after ≡ tabulate p (node_of set p) →
      (0, after) ≡ set_call p set l
  unfolding set_call
  set_known after z u = call_done 0 _ (tabulate p (node_of set p)) l (rw (set_past p set (length l) z, le-leb set 1 u)) after refl

  -- and where the call with no set has answered r and left l'
  module _ (r : ℕ) (l' : List Float) (made : (r, l') ≡ nodes_call p l) where
    number_is : r ≡ nodes_number p (length l)
    unfolding nodes_call
    number_is = ap (λ (x : ℕ × List Float). x.0) made

    left_is : l' ≡ left (nodes_number p (length l)) (tabulate p (node p)) l
    unfolding nodes_call
    left_is = ap (λ (x : ℕ × List Float). x.1) made

    pub default_refused : (r ≡ 0 → ⊥) → (r, l') ≡ set_call p set l
    default_refused h =
        let kept : l' ≡ l = left_is ∙ left_refused (nodes_number p (length l)) _ l (λ z. h (number_is ∙ z)) in
        rw kept (set_refused r number_is h)

    module _ (z : r ≡ 0) where
      pub default_done : (1 ≤ p) × (p ≤ 16) × (l' ≡ tabulate p (node p))
      default_done =
          let t = nodes_accepted p (length l) (sym number_is ∙ z) in
          (t.0, t.1, left_is ∙ left_done (nodes_number p (length l)) _ l (sym number_is ∙ z))

      -- the buffer at the end, whichever set it is of
      known : (after : List Float) → set ≤ 1 → after ≡ tabulate p (node_of set p) → (0, after) ≡ set_call p set l
      known after u = set_known after (sym number_is ∙ z) u

      pub set_mirrored : (after : List Float) → set ≡ 1 → after ≡ tabulate p (mirrored p) → (0, after) ≡ set_call p set l
      set_mirrored after o h = known after (omega arith) (rw o h)

      pub set_plain : set ≤ 1 → (set ≡ 1 → ⊥) → (0, l') ≡ set_call p set l
      set_plain u o = let none : set ≡ 0 = omega (arith, o) in known l' u (rw none default_done.2)

-- SET 0 is the default: the call with no set
pub set_default : (p : ℕ) (l : List Float) → set_call p 0 l ≡ nodes_call p l
unfolding set_call nodes_call set_number nodes_number
set_default p l = refl
