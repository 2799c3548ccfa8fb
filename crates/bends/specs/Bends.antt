-- What the curvatures need of an axis beside S and S': S'' at a reference coordinate; and what the room to work in ends as.
use Rattle.std.specs.Prelude.{◌≡◌, List, ◌++◌, ℕ, ◌*◌, Float}
use Rattle.common.specs.Floats.{times, over, two₆₄, float, inner}
use Rattle.common.specs.Matrices.{matrix, column_major}
use Rattle.polynomial_columns.specs.Recurrence.{T, T', T''}

-- S'' of a sum: ((sum*(2/p))*(2/side))*(2/side)
unfoldable pub bend_of : (p : ℕ) → (side sum : Float) → Float
bend_of p side sum = times (times (times sum (over two₆₄ (float p))) (over two₆₄ side)) (over two₆₄ side)

-- S'' of node n at a reference coordinate x: the sum is the product of T'' at x with T at the node
unfoldable pub S'' : (p : ℕ) → (side : Float) → (polynomials : List Float) → (n : ℕ) → (x : Float) → Float
S'' p side polynomials n x = bend_of p side (inner p (λ k. T'' k x) (matrix p polynomials n))

-- THE ROOM: T, T' and T'' at P coordinates of one axis, each P by p
unfoldable pub room_of : (p P : ℕ) → (x : ℕ → Float) → List Float
room_of p P x =
    column_major P p (λ i j. T j (x i)) ++ (column_major P p (λ i j. T' j (x i)) ++ column_major P p (λ i j. T'' j (x i)))

-- the lengths with which S, S' and S'' of all axes are filled: of points, node polynomials, room, factors, slopes and bends
pub record BendsFit (D p P n t r f d b : ℕ) : Type 0 where
  pub points : n ≡ D * P
  pub polynomials : t ≡ p * p
  pub room : r ≡ 3 * p * P
  pub factors : f ≡ D * p * P
  pub slopes : d ≡ D * p * P
  pub bends : b ≡ D * p * P
