-- The contracts of this crate determine what their calls answer and leave. Assumes nothing.
use Rattle.std.proofs.Common.{◌≡◌, ℕ, ◌^◌, Bool, List}
use Rattle.common.proofs.Determined.{coincide}
use Rattle.vectors.specs.Order.{axis}
use Rattle.turn_tables.specs.Turned.{reversed, turned}
use Rattle.turn_tables.specs.Working.{stored}

axis_of_determined : (D k m r r' : ℕ) → r ≡ axis D k m → r' ≡ axis D k m → r ≡ r'
axis_of_determined D k m r r' = coincide r r' (axis D k m)

reverse_determined : (p : ℕ) (negative : Bool) (i r r' : ℕ) → r ≡ reversed p negative i → r' ≡ reversed p negative i → r ≡ r'
reverse_determined p negative i r r' = coincide r r' (reversed p negative i)

fill_determined : (inverse : Bool) (D p case : ℕ) (table exit exit' : List ℕ) →
    exit ≡ stored inverse (λ n. n) (turned D p case) (p ^ D) table → exit' ≡ stored inverse (λ n. n) (turned D p case) (p ^ D) table →
    exit ≡ exit'
fill_determined inverse D p case table exit exit' = coincide exit exit' (stored inverse (λ n. n) (turned D p case) (p ^ D) table)
