-- A call's number and values, `answer number values`: what it says of the number and the values that an answer tells. Assumes nothing.
use mathlib.Core.Path.{◌≡◌, refl, ap}
use mathlib.Core.Option.{Option, none, some}
use Prim.Native.Nat.{ℕ, zero, suc}
use native.Mathlib.Omega.{arith}
use Rattle.common.specs.Refusals.{answer}

module _ {A : Type 0} where
  abbrev values : ℕ × Option A → Option A
  values t = t.1

  abbrev told_number : ℕ × Option A → ℕ
  told_number t = t.0

  pub answer_refused : (n : ℕ) (a : A) → (n ≡ 0 → ⊥) → ◌≡◌ {A = ℕ × Option A} (n, none) (answer n a)
  answer_refused zero a h = absurd (h refl)
  answer_refused (suc n) a h = refl

  pub answer_done : (n : ℕ) (a b : A) → n ≡ 0 → b ≡ a → ◌≡◌ {A = ℕ × Option A} (0, some b) (answer n a)
  answer_done n a b e same = rw (e, same)

  -- back from what is told
  pub refused_by : (m n : ℕ) (a : A) → ◌≡◌ {A = ℕ × Option A} (m, none) (answer n a) → (m ≡ n) × (n ≡ 0 → ⊥)
  refused_by m zero a h = let e = ap values h in let z : ◌≡◌ {A = ℕ} 0 1 = cc in absurd (omega arith)
  refused_by m (suc n) a h = (ap told_number h, λ z. omega arith)

  pub done_by : (n : ℕ) (a b : A) → ◌≡◌ {A = ℕ × Option A} (0, some b) (answer n a) → (n ≡ 0) × (b ≡ a)
  done_by zero a b h = (refl, let e = ap values h in cc)
  done_by (suc n) a b h = let e = ap values h in let z : ◌≡◌ {A = ℕ} 0 1 = cc in absurd (omega arith)
