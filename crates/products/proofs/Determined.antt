-- The contracts of this crate determine what their calls leave. Assumes nothing.
use mathlib.Core.Path.{◌≡◌}
use mathlib.Core.List.{List}
use Prim.Native.Nat.{ℕ, ◌^◌}
use lib.Ieee.{Float}
use Rattle.common.specs.Matrices.{column_major}
use Rattle.common.proofs.Determined.{coincide}
use Rattle.products.specs.Products.{product_of, started_of}

module _ (D p P : ℕ) (exit exit' : List Float) where
  fill_products_determined : (axes : ℕ → ℕ) (buffers : ℕ → List Float) → exit ≡ column_major P (p ^ D) (product_of D p P axes buffers) →
      exit' ≡ column_major P (p ^ D) (product_of D p P axes buffers) → exit ≡ exit'
  fill_products_determined axes buffers = coincide exit exit' _

  fill_started_determined : (axis : ℕ) (starts factors : List Float) →
      exit ≡ column_major P (p ^ D) (started_of D p P axis starts factors) →
      exit' ≡ column_major P (p ^ D) (started_of D p P axis starts factors) → exit ≡ exit'
  fill_started_determined axis starts factors = coincide exit exit' _
