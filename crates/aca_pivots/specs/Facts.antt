-- What the masked argmax is, said of its answer: the first of the largest counted sizes. proofs/Facts.antt proves it of every list.
use Rattle.std.specs.Prelude.{ℕ, ◌<◌, ◌≡◌, Bool, true, false, List, Float, length, get_or}
use Rattle.std.specs.Float.{nan}
use Rattle.std.specs.Float.Ieee.{lt, is_nan}
use Rattle.common.specs.Floats.{zero₆₄, size}
use Rattle.aca_pivots.specs.Largest.{argmax, pivot}

-- the size of entry k
abbrev pub size_at : List Float → (k : ℕ) → Float
size_at l k = size (get_or l k nan)

-- entry k counts
pub record Counted (l : List Float) (on : ℕ → Bool) (k : ℕ) : Type 0 where
  pub inside : k < length l
  pub is_on : on k ≡ true

-- entry j counts and its size is above 0, no counted size is above it, and every counted one before it is below it. A NaN is above
-- nothing and below nothing, so it is passed over.
pub record FirstLargest (l : List Float) (on : ℕ → Bool) (j : ℕ) : Type 0 where
  pub counted : Counted l on j
  pub above_zero : lt zero₆₄ (size_at l j) ≡ true
  pub largest : (k : ℕ) → Counted l on k → lt (size_at l j) (size_at l k) ≡ false
  pub first : (k : ℕ) → Counted l on k → k < j → is_nan (size_at l k) ≡ false → lt (size_at l k) (size_at l j) ≡ true

pub record ArgmaxFacts (l : List Float) (on : ℕ → Bool) : Type 0 where
  -- where some counted size is above 0, the answer is the first of the largest
  pub first_largest : (k : ℕ) → Counted l on k → lt zero₆₄ (size_at l k) ≡ true → FirstLargest l on (argmax l on)
  -- where none is, it is 0
  pub none_above : ((k : ℕ) → Counted l on k → lt zero₆₄ (size_at l k) ≡ false) → argmax l on ≡ 0
  -- the pivot's size is the answer's own
  pub pivot_size : 0 < length l → (pivot l on).size ≡ size_at l (argmax l on)
