-- The rule of the nodes at every node of both sets, by one test that antt computes, over any set of nodes. Assumes nothing.
use mathlib.Core.Path.{◌≡◌, refl, sym}
use mathlib.Core.Bool.{Bool, true, false, cond, ◌&&◌, and-eq-true_iff}
use Prim.Native.Nat.{ℕ, zero, suc, ◌^◌, ◌<◌, ◌≤◌}
use native.Mathlib.Nat.{not-suc-le-zero}
use native.Mathlib.Omega.{arith}
use lib.Dec.{T, ltb}
use lib.IntN.{pos, ◌+ℤ◌, ◌-ℤ◌, ◌*ℤ◌}
use lib.Signed.{lt_z, lt_z_yes}
use lib.Ieee.{Float, neg, of_bits}
use borrow.Author.Tests.{lt-ltb}
use Rattle.common.specs.Tests.{each}
use Rattle.common.proofs.Tests.{each_at}
use Rattle.node_rows.specs.Rows.{entry}
use Rattle.nodes.specs.Sets.{mirrored, node_of}
use Rattle.nodes.specs.Rule.{one, gap, margin, enlarged, whole, chebyshev, opposite, place, Node}

-- 1/64 and 2 ^ -48
gap_is : pos 64 *ℤ gap ≡ one
gap_is = refl

margin_is : pos (2 ^ 48) *ℤ margin ≡ one
margin_is = refl

passed : (b : Bool) → b ≡ true → T b
passed true h = tt
passed false h = let z : true ≡ false = sym h in absurd (not_true_false z)
  where
    not_true_false : true ≡ false → ⊥
    not_true_false e = let z : ◌≡◌ {A = ℕ} 0 1 = cc in omega arith

module _ (x : ℕ → ℕ → Float) where
  -- THE TEST of one node: it is exact, the next is more than 1/64 above it, and T_p crosses zero there
  exactly : (p i : ℕ) → Bool
  exactly p i = whole (x p i)

  rising : (p i : ℕ) → Bool
  rising p i = cond (ltb (suc i) p) (lt_z (place x p i +ℤ gap) (place x p (suc i))) true

  crossing : (p i : ℕ) → Bool
  crossing p i = opposite (chebyshev p (place x p i -ℤ margin)) (chebyshev p (place x p i +ℤ margin))

  right : (p i : ℕ) → Bool
  right p i = exactly p i && (rising p i && crossing p i)

  -- the test of all: the orders 1 to 16, and each order's nodes
  pub all_right : Bool
  all_right = each 16 (λ q. each (suc q) (right (suc q)))

  -- a set that passes has the rule at each node
  pub rule_of : all_right ≡ true → (p i : ℕ) → 1 ≤ p → p ≤ 16 → i < p → Node x p i
  unfolding all_right right exactly rising crossing
  rule_of all zero i l u h = absurd (not-suc-le-zero l)
  rule_of all (suc q) i l u h =
      let here : right (suc q) i ≡ true = each_at (suc q) (right (suc q))
      (each_at 16 (λ r. each (suc r) (right (suc r))) all q (omega arith)) i h in
      let one = (and-eq-true_iff (exactly (suc q) i) (rising (suc q) i && crossing (suc q) i)).0 here in
      let two = (and-eq-true_iff (rising (suc q) i) (crossing (suc q) i)).0 one.1 in
      record {
        exact = passed _ one.0;
        rises = λ n. lt_z_yes (passed _ (rw (lt-ltb (suc i) (suc q) n) at two.0));
        crosses = passed _ two.1;
      }

-- THE RULE of both sets
all_right_lem : each 2 (λ set. all_right (node_of set)) ≡ true
unfolding all_right each right exactly rising crossing whole place enlarged chebyshev entry mirrored neg of_bits
all_right_lem = refl

pub nodes_right : (set p i : ℕ) → set < 2 → 1 ≤ p → p ≤ 16 → i < p → Node (node_of set) p i
nodes_right set p i known = rule_of (node_of set) (each_at 2 (λ k. all_right (node_of k)) all_right_lem set known) p i
