-- The largest entry of a line: only sizes strictly above the best so far count, starting from 0, so that the first of equals wins.
use Rattle.std.specs.Prelude.{ℕ, zero, suc, Bool, ◌&&◌, cond, List, eqb, Float, length, get_or}
use Rattle.std.specs.Float.{nan}
use Rattle.std.specs.Float.Ieee.{lt}
use Rattle.common.specs.Floats.{zero₆₄, size}
use Rattle.aca_pivots.specs.declared.Pivot.{Pivot}
use Rattle.aca_pivots.specs.declared.search.Best.{Best}

-- the best place among the first n entries, of those at which `on` holds, and its size
unfoldable pub best : (n : ℕ) → (entries : List Float) → (on : ℕ → Bool) → Best
best zero l on = record { place = 0; worth = zero₆₄ }
best (suc n) l on =
    cond (on n && lt (best n l on).worth (size (get_or l n nan))) (record { place = n; worth = size (get_or l n nan) }) (best n l on)

unfoldable pub argmax : (entries : List Float) → (on : ℕ → Bool) → ℕ
argmax l on = (best (length l) l on).place

-- a place, and the size of the entry there; where there is none, +0.0
abbrev pub pivot_at : (entries : List Float) → (k : ℕ) → Pivot
pivot_at l k = record { place = k; size = size (get_or l k zero₆₄) }

-- THE PIVOT: the place of the largest entry, and the size of the entry there. Where no entry counts that is entry 0, which may be
-- a NaN or one that is off.
unfoldable pub pivot : (entries : List Float) → (on : ℕ → Bool) → Pivot
pivot l on = pivot_at l (argmax l on)

-- entry k counts where byte k of a mask is 1
unfoldable pub counts : (mask : List ℕ) → (k : ℕ) → Bool
counts mask k = eqb (get_or mask k 0) 1
