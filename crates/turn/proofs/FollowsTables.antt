-- What following a node answers is what stands in the full tables, and the two moves undo each other. Assumes nothing.
use mathlib.Core.Path.{◌≡◌, sym, ap, ◌∙◌}
use mathlib.Core.List.{List}
use Prim.Native.Nat.{ℕ, ◌^◌, ◌<◌}
use lib.Dec.{ltb}
use lib.ListN.{length}
use borrow.Author.Tests.{ltb-true}
use Rattle.std.specs.Prelude.{Ok}
use Rattle.common.specs.Numbers.{told}
use Rattle.common.specs.Lists.{tabulate}
use Rattle.common.specs.Refusals.{Shape}
use Rattle.common.proofs.Answers.{done_by}
use Rattle.common.proofs.Fill.{get_d_tabulate}
use Rattle.common.proofs.Limits.{left_done, passed, shape_passed}
use Rattle.vectors.specs.Vectors.{sizes, case, at_most}
use Rattle.vectors.specs.LookUps.{entries, look_up_number, known_of, look_up}
use Rattle.vectors.specs.declared.Vector.{Vector}
use Rattle.vectors.specs.declared.Known.{Known}
use Rattle.turn_tables.specs.Turned.{turned, returned}
use Rattle.turn.specs.Tables.{table_number, table_call}
use Rattle.turn.specs.Follow.{follow_number, moves_of, follow_call}
use Rattle.turn.specs.FollowCalls.{NodesAreFollowed}
use Rattle.turn.specs.declared.follow.Moves.{Moves}
use Rattle.turn_tables.proofs.Nodes.{turned_below, returned_below, returned_turned, turned_returned}

-- a table that was filled, at a place
filled : (D p k : ℕ) (f : ℕ → ℕ) (lent l : List ℕ) → (0, l) ≡ table_call D p k f lent → l ≡ tabulate (p ^ D) f
unfolding table_call
filled D p k f lent l e =
    let none : table_number D p k (length lent) ≡ 0 = sym (ap (λ (r : ℕ × List ℕ). r.0) e) in
    ap (λ (r : ℕ × List ℕ). r.1) e ∙ left_done _ (tabulate (p ^ D) f) lent none

-- a node that was followed
pub record Taken (D p : ℕ) (v : Vector) (n : ℕ) (m : Moves) : Type 0 where
  pub shape : Shape D p
  pub below : n < p ^ D
  pub moves : m ≡ moves_of D p (entries v) n

taken : (D p : ℕ) (v : Vector) (n : ℕ) (m : Moves) → told (Ok m) ≡ follow_call D p v n → Taken D p v n m
unfolding follow_call follow_number
taken D p v n m e =
    let done = done_by (follow_number D p (sizes (entries v)) n) (moves_of D p (entries v) n) m e in
    let s = shape_passed D p _ done.0 in
    let near = passed (at_most 3 D (sizes (entries v))) 3 _ s.1 in
    record { shape = s.0; below = ltb-true n (p ^ D) (passed (ltb n (p ^ D)) 4 _ near.1).0; moves = done.1 }

pub nodes_are_followed : NodesAreFollowed
unfolding look_up known_of moves_of
nodes_are_followed D p v n k lent lent' table inverse m known t t' e =
    let own = taken D p v n m e in
    let o = own.shape.order_least in
    let c = case D (entries v) in
    let is : k ≡ known_of D (entries v) = (done_by (look_up_number D (sizes (entries v))) (known_of D (entries v)) k known).1 in
    let case-is : k.case ≡ c = ap (λ (x : Known). x.case) is in
    let held : table ≡ tabulate (p ^ D) (turned D p c) = rw (← case-is) (filled D p k.case _ lent table t) in
    let held' : inverse ≡ tabulate (p ^ D) (returned D p c) = rw (← case-is) (filled D p k.case _ lent' inverse t') in
    let image-is : m.image ≡ turned D p c n = ap (λ (x : Moves). x.image) own.moves in
    let origin-is : m.origin ≡ returned D p c n = ap (λ (x : Moves). x.origin) own.moves in
    record {
      image = rw (held, image-is) (get_d_tabulate (p ^ D) (turned D p c) n 0 own.below);
      origin = rw (held', origin-is) (get_d_tabulate (p ^ D) (returned D p c) n 0 own.below);
      image_back =
          rw (held', image-is)
          (get_d_tabulate (p ^ D) (returned D p c) (turned D p c n) 0 (turned_below D p c o n) ∙ returned_turned D p c o n own.below);
      origin_there =
          rw (held, origin-is)
          (get_d_tabulate (p ^ D) (turned D p c) (returned D p c n) 0 (returned_below D p c o n) ∙ turned_returned D p c o n own.below);
      back =
          λ m' e'. ap (λ (x : Moves). x.origin) (taken D p v m.image m' e').moves
          ∙ rw image-is (returned_turned D p c o n own.below);
      there =
          λ m' e'. ap (λ (x : Moves). x.image) (taken D p v m.origin m' e').moves
          ∙ rw origin-is (turned_returned D p c o n own.below);
    }
