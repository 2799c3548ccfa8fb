-- WHAT FOLLOWING A NODE SAYS beside the other calls: what they answer and leave for a vector; proofs/FollowsTables.antt proves it.
use Rattle.std.specs.Prelude.{◌≡◌, List, ℕ, get_or, Ok}
use Rattle.common.specs.Numbers.{told}
use Rattle.vectors.specs.LookUps.{look_up}
use Rattle.vectors.specs.declared.Vector.{Vector}
use Rattle.vectors.specs.declared.Known.{Known}
use Rattle.turn_tables.specs.Turned.{turned, returned}
use Rattle.turn.specs.Tables.{table_call}
use Rattle.turn.specs.Follow.{follow_call}
use Rattle.turn.specs.declared.follow.Moves.{Moves}

-- Whatever is known of the vector, near or far, and whatever both tables of its case hold: the entries at the node are the image and the
-- origin; and from the image the inverse table leads back to the node, and from the origin the table does.
pub record FollowsTables (D p : ℕ) (v : Vector) (n : ℕ) (table inverse : List ℕ) (m : Moves) : Type 0 where
  pub image : get_or table n 0 ≡ m.image
  pub origin : get_or inverse n 0 ≡ m.origin
  pub image_back : get_or inverse m.image 0 ≡ n
  pub origin_there : get_or table m.origin 0 ≡ n
  -- and so does following: the origin of the image is the node, and so is the image of the origin
  pub back : (m' : Moves) → told (Ok m') ≡ follow_call D p v m.image → m'.origin ≡ n
  pub there : (m' : Moves) → told (Ok m') ≡ follow_call D p v m.origin → m'.image ≡ n

abbrev pub NodesAreFollowed : Type 0
NodesAreFollowed =
    (D p : ℕ) (v : Vector) (n : ℕ) (k : Known) (lent lent' table inverse : List ℕ) (m : Moves) →
    told (Ok k) ≡ look_up D v → (0, table) ≡ table_call D p k.case (turned D p k.case) lent →
    (0, inverse) ≡ table_call D p k.case (returned D p k.case) lent' → told (Ok m) ≡ follow_call D p v n →
    FollowsTables D p v n table inverse m
