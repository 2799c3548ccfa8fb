-- What the call's number says, and what the call then answers and leaves. Assumes nothing.
use mathlib.Core.Path.{◌≡◌, sym, ap}
use mathlib.Core.Bool.{Bool, true, false, cond, ◌&&◌}
use mathlib.Core.List.{List}
use Prim.Native.Nat.{ℕ, ◌+◌, ◌-◌, ◌*◌, ◌^◌, ◌<◌, ◌≤◌}
use lib.Dec.{ltb, eqb}
use lib.Ieee.{Float}
use lib.ListN.{length}
use borrow.Author.Tests.{eqb-true, lt-ltb, le-ltb, eq-eqb, ne_eqb}
use Rattle.common.specs.Refusals.{Shape, shape_number}
use Rattle.common.proofs.Cases.{equal_and}
use Rattle.common.proofs.Limits.{shape_out, shape_past, call_refused₂, call_done₂, passed, shape_passed}
use Rattle.transfer.specs.Tensor.{along, ends, transfer_number, transferred, transfer_call}

pub record Accepted (D p child i o f s : ℕ) : Type 0 where
  pub shape : Shape D p
  pub input : i ≡ p ^ D
  pub operators : o ≡ (p + p) * p
  pub first : f ≡ p ^ D
  pub second : s ≡ p ^ D

module _ (D p child i o f s : ℕ) where
  pub transfer_shape : (shape_number D p ≡ 0 → ⊥) → shape_number D p ≡ transfer_number D p child i o f s
  unfolding transfer_number
  transfer_shape = shape_out D p _

  module _ (taken : Shape D p) where
    pub transfer_child : 2 ^ D ≤ child → 5 ≡ transfer_number D p child i o f s
    unfolding transfer_number
    transfer_child h = rw (le-ltb child (2 ^ D) h) (sym (shape_past D p 5 taken))

    module _ (l : child < 2 ^ D) where
      -- the last test, once the others have passed
      lengths_tested : (t : Bool) → eqb i (p ^ D) && (eqb o ((p + p) * p) && (eqb f (p ^ D) && eqb s (p ^ D))) ≡ t →
          cond t 0 7 ≡ transfer_number D p child i o f s
      unfolding transfer_number
      lengths_tested t e = rw (lt-ltb child (2 ^ D) l, e) (sym (shape_past D p (cond t 0 7) taken))

      pub transfer_input : (i ≡ p ^ D → ⊥) → 7 ≡ transfer_number D p child i o f s
      transfer_input h = lengths_tested false (rw (ne_eqb i (p ^ D) h))

      pub transfer_operators : i ≡ p ^ D → (o ≡ (p + p) * p → ⊥) → 7 ≡ transfer_number D p child i o f s
      transfer_operators ei h = lengths_tested false (rw (eq-eqb i (p ^ D) ei, ne_eqb o ((p + p) * p) h))

      pub transfer_first : i ≡ p ^ D → o ≡ (p + p) * p → (f ≡ p ^ D → ⊥) → 7 ≡ transfer_number D p child i o f s
      transfer_first ei eo h = lengths_tested false (rw (eq-eqb i (p ^ D) ei, eq-eqb o ((p + p) * p) eo, ne_eqb f (p ^ D) h))

      pub transfer_second : i ≡ p ^ D → o ≡ (p + p) * p → f ≡ p ^ D → (s ≡ p ^ D → ⊥) → 7 ≡ transfer_number D p child i o f s
      transfer_second ei eo ef h =
          lengths_tested false (rw (eq-eqb i (p ^ D) ei, eq-eqb o ((p + p) * p) eo, eq-eqb f (p ^ D) ef, ne_eqb s (p ^ D) h))

      pub transfer_none : i ≡ p ^ D → o ≡ (p + p) * p → f ≡ p ^ D → s ≡ p ^ D → 0 ≡ transfer_number D p child i o f s
      transfer_none ei eo ef es =
          lengths_tested true (rw (eq-eqb i (p ^ D) ei, eq-eqb o ((p + p) * p) eo, eq-eqb f (p ^ D) ef, eq-eqb s (p ^ D) es))

  pub transfer_accepted : transfer_number D p child i o f s ≡ 0 → Accepted D p child i o f s
  unfolding transfer_number
  transfer_accepted z =
      let shape = shape_passed D p _ z in
      let child-in = passed (ltb child (2 ^ D)) 4 _ shape.1 in
      let a = equal_and i (p ^ D) _ (passed _ 6 0 child-in.1).0 in
      let b = equal_and o ((p + p) * p) _ a.1 in
      let c = equal_and f (p ^ D) _ b.1 in
      record { shape = shape.0; input = a.0; operators = b.0; first = c.0; second = eqb-true _ _ c.1 }

module _ (D p child : ℕ) (transpose : Bool) (i o f s : List Float) (r : ℕ)
    (e : r ≡ transfer_number D p child (length i) (length o) (length f) (length s)) where
  pub transfer_refused : (r ≡ 0 → ⊥) → (r, f, s) ≡ transfer_call D p child transpose i o f s
  unfolding transfer_call
  transfer_refused = call_refused₂ r _ (transferred D p child transpose i o s).0 f (transferred D p child transpose i o s).1 s e

  -- the passes start from a copy of the input
  pub transfer_done : (start f' s' : List Float) → r ≡ 0 → start ≡ i →
      (f', s') ≡ ends (along p (p ^ (D - 1)) child transpose o) D start s → (0, f', s') ≡ transfer_call D p child transpose i o f s
  unfolding transfer_call transferred
  transfer_done start f' s' z begun h =
      let made : (f', s') ≡ transferred D p child transpose i o s = rw (← begun) h in
      call_done₂ r _ (transferred D p child transpose i o s).0 f (transferred D p child transpose i o s).1 s e f' s' z
      (ap (λ (x : List Float × List Float). x.0) made) (ap (λ (x : List Float × List Float). x.1) made)
