-- NOTHING ROUNDS: an entry that is read is held exactly, so it can be written again. Assumes nothing.
use mathlib.Core.Path.{◌≡◌}
use mathlib.Core.Bool.{cond}
use mathlib.Core.Option.{some}
use Prim.Native.Nat.{ℕ, zero, suc, ◌*◌, ◌/◌, ◌^◌, ◌≤◌}
use native.Mathlib.Omega.{arith}
use lib.Dec.{T, leb, ltb, le→leb, lt→ltb, leb→le, ltb→lt}
use lib.IntN.{ℤ, pos, negsuc, neg_ℤ}
use lib.Ieee.{Float, nan, inf, fin, binary64, up, down, whole, to_signed, in_signed, in_float}
use lib.Ieee.Back.{positive_back, negative_back}
use lib.Ieee.Bits.{is_true}
use lib.Ieee.Fits.{and_l}
use Rattle.exchange_format.specs.Meaning.{EntryLine, EntryLine.plain, EntryLine.minus}
use Rattle.exchange_format.specs.Reading.{float}
use Rattle.exchange_format.specs.Writing.{whole_of}
use Rattle.exchange_format.specs.Promises.{Unrounded}
use Rattle.exchange_format.proofs.Meant.{is_entry}

signed_whole : (x : Float) → T (in_signed binary64 63 x) → T (whole binary64 x)
unfolding in_signed
signed_whole nan t = absurd t
signed_whole (inf s) t = absurd t
signed_whole (fin s m g) t = and_l (whole binary64 (fin s m g))
    (cond s (leb (m * up g / down g) (2 ^ 63)) (ltb (m * up g / down g) (2 ^ 63))) t

kept : (z : ℤ) → T (in_signed binary64 63 (float z)) × (to_signed 63 (float z) ≡ z) → whole_of (float z) ≡ some z
unfolding whole_of
kept z h = rw (is_true (whole binary64 (float z)) (signed_whole (float z) h.0), h.1)

exact : (z : ℤ) → T (in_float binary64 z) → whole_of (float z) ≡ some z
unfolding in_float
exact (pos n) t = kept (pos n) (positive_back binary64 63 n t (omega (arith, leb→le n (2 ^ 53) t)))
exact (negsuc n) t = kept (negsuc n) (negative_back binary64 63 n t (omega (arith, ltb→lt n (2 ^ 53) t)))

small : {l : _} {z : ℤ} → EntryLine l z → T (in_float binary64 z)
unfolding in_float
small (plain {l} {n} h) = le→leb n (2 ^ 53) h.within
small (minus {l} {n} h) = go n h.within
  where
    go : (n : ℕ) → n ≤ 2 ^ 53 → T (in_float binary64 (neg_ℤ (pos n)))
    go zero b = tt
    go (suc k) b = lt→ltb k (2 ^ 53) b

pub unrounded : Unrounded
unrounded l z e = exact z (small (is_entry l z e))
