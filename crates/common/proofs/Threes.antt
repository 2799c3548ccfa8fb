-- Three numbers by axis: what they number as digits, and wider bounds. Assumes nothing.
use mathlib.Core.Path.{◌≡◌}
use Prim.Native.Nat.{ℕ, zero, suc, ◌+◌, ◌*◌, ◌<◌, ◌≤◌}
use native.Mathlib.Nat.{zero-add, zero-mul}
use native.Mathlib.Omega.{arith}
use Rattle.common.specs.Digits.{from_digits}
use Rattle.common.specs.Threes.{three, Small}
use Rattle.common.specs.declared.Three.{Three}
use Rattle.common.proofs.Digits.{from_digits_cong}

module _ (b D : ℕ) (f : ℕ → ℕ) where
  pub from_digits_one : D ≡ 1 → f 0 ≡ from_digits b D f
  unfolding from_digits
  from_digits_one e = rw (e, zero-mul) (omega arith)

  pub from_digits_two : D ≡ 2 → f 0 * b + f 1 ≡ from_digits b D f
  unfolding from_digits
  from_digits_two e = rw (e, zero-mul) (rw (zero-add (f 0)))

  pub from_digits_three : D ≡ 3 → (f 0 * b + f 1) * b + f 2 ≡ from_digits b D f
  unfolding from_digits
  from_digits_three e = rw (e, zero-mul) (rw (zero-add (f 0)))

-- digits that are a function's at the first three places number what the function does
pub three_digits : (b D : ℕ) (f : ℕ → ℕ) (x y z : ℕ) → D ≤ 3 → x ≡ f 0 → y ≡ f 1 → z ≡ f 2 →
    from_digits b D (three (x, y, z)) ≡ from_digits b D f
three_digits b D f x y z most e e' e'' = from_digits_cong b D (three (x, y, z)) f same
  where
    same : (a : ℕ) → a < D → three (x, y, z) a ≡ f a
    same zero l = e
    same (suc zero) l = e'
    same (suc (suc zero)) l = e''
    same (suc (suc (suc a))) l = absurd (omega arith)

pub small_more : (D a b : ℕ) (t : Three) → a ≤ b → Small D a t → Small D b t
small_more D a b t h s =
    record {
      dimension_least = s.dimension_least;
      dimension_most = s.dimension_most;
      first = omega (arith, s.first);
      second = omega (arith, s.second);
      third = omega (arith, s.third);
    }
