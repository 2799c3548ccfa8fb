-- What the private functions speak of; no public contract cites it. An entry is held as a digit, three more than it is.
use Rattle.std.specs.Prelude.{ℕ, zero, suc, ◌+◌, ◌-◌, ◌<◌, min, ◌≡◌, Bool, cond, ◌&&◌, ◌||◌, leb, ltb, eqb, ℤ, pos, nat_abs, ◌+ℤ◌, ◌-ℤ◌}
use Rattle.common.specs.Tests.{each}
use Rattle.common.specs.Refusals.{no_dimension, no_entry, not_zero, unless, is_dimension}
use Rattle.common.specs.declared.Three.{Three}
use Rattle.vectors.specs.declared.Vector.{Vector}

-- an entry from -3 to 3 as a digit; 7 for any other
unfoldable pub shifted : ℤ → ℕ
shifted e = cond (leb (nat_abs e) 3) (nat_abs (e +ℤ pos 3)) 7

-- a digit's entry, size and sign
abbrev pub unshifted : ℕ → ℤ
unshifted d = pos d -ℤ pos 3

abbrev pub size_of : ℕ → ℕ
size_of d = (d - 3) + (3 - d)

abbrev pub sign_of : ℕ → ℕ
sign_of d = min 1 (d - 2)

-- three digits as a vector
abbrev pub vector_of : Three → (ℕ → ℤ)
vector_of t zero = unshifted t.0
vector_of t (suc zero) = unshifted t.1
vector_of t (suc (suc zero)) = unshifted t.2
vector_of t (suc (suc (suc a))) = pos 0

-- what a function makes of each of the three
abbrev pub each_of : (ℕ → ℕ) → Three → Three
each_of f t = (f t.0, f t.1, f t.2)

-- the refusal that a vector's digits bring: 7 is no entry, and past the dimension only 3 is
unfoldable pub digits_number : (D : ℕ) → (ℕ → ℕ) → ℕ
digits_number D d =
    unless (is_dimension D) no_dimension
    (unless (each D (λ a. ltb (d a) 7)) no_entry (unless (each (3 - D) (λ a. eqb (d (D + a)) 3)) not_zero 0))

-- as the program asks it: the first digits are those of entries, and those past them are those of 0
unfoldable pub are_entries : (D : ℕ) → Three → Bool
are_entries D d = (ltb d.0 7 && (ltb D 2 || ltb d.1 7)) && (ltb D 3 || ltb d.2 7)

unfoldable pub are_zeros : (D : ℕ) → Three → Bool
are_zeros D d = (leb 2 D || eqb d.1 3) && (leb 3 D || eqb d.2 3)

-- 1 where the second of two sizes comes first, as the larger
abbrev pub swap : ℕ → ℕ → ℕ
swap a b = min 1 (b - a)

-- past the dimension the numbers are a given one
pub record Past (D given : ℕ) (t : Three) : Type 0 where
  pub second : D < 2 → t.1 ≡ given
  pub third : D < 3 → t.2 ≡ given

-- a vector as three digits
abbrev pub digits_of : Vector → Three
digits_of v = (shifted v.0, shifted v.1, shifted v.2)
