-- What the steps of the call leave, put together, is what the definitions say. Assumes nothing.
use mathlib.Core.Path.{◌≡◌, refl, sym, ap, ◌∙◌}
use mathlib.Core.Bool.{Bool, true, false, cond}
use mathlib.Core.List.{List, []}
use Prim.Native.Nat.{ℕ, zero, suc, ◌*◌, ◌/◌, ◌%◌, ◌^◌, ◌<◌, ◌≤◌}
use native.Mathlib.Nat.{div-lt_iff_lt-mul}
use native.Mathlib.Omega.{arith}
use lib.Dec.{T}
use lib.Ieee.{Float, binary64, fits}
use lib.Ieee.Fits.{div-fits}
use borrow.Author.Tests.{ne_eqb}
use lib.ListN.{length}
use Rattle.common.specs.Floats.{times, one₆₄}
use Rattle.common.specs.Matrices.{column_major}
use Rattle.common.specs.Refusals.{size_if}
use Rattle.common.proofs.Matrices.{some_rows, column_cong}
use Rattle.common.proofs.Ones.{one_times}
use Rattle.chebyshev.proofs.Calls.{none}
use Rattle.axes.specs.Axes.{factor_of, S, S', on_axes}
use Rattle.coefficients.specs.Coefficients.{products, factor, value, gradient, with_gradients, leaves}
use Rattle.coefficients.specs.Working.{gradient_of, side_of, filled}
use Rattle.coefficients.specs.declared.wanted.Wanted.{Wanted}
use Rattle.coefficients.specs.declared.wanted.Wanted.TheVariants.{Values, Gradients}
use Rattle.products.specs.Products.{others, started_of}
use Rattle.products.proofs.Products.{axis_entry, others_cong}

-- a list that is empty unless it is wanted
emptied : (with : Bool) (n : ℕ) (x y l : List Float) → length l ≡ size_if with n → x ≡ cond with y l → x ≡ cond with y []
emptied true n x y l h e = e
emptied false n x y l h e = e ∙ none l h

-- two lists that are the same if they are wanted
if_wanted : (with : Bool) (x y l : List Float) → (with ≡ true → x ≡ y) → cond with x l ≡ cond with y l
if_wanted true x y l h = h refl
if_wanted false x y l h = refl

-- S is a quotient, so it is a value of the format
S_fits : (p : ℕ) (t : List Float) (n : ℕ) (x : Float) → T (fits binary64 (S p t n x))
unfolding S factor_of
S_fits p t n x = div-fits binary64 _ _

-- 1 TIMES ALL FACTORS
-- it starts with the first, which 1 leaves as it is

products_others : (n : ℕ) (f : ℕ → Float) → products (suc n) f ≡ others 0 (times one₆₄ (f 0)) (suc n) f
unfolding products others
products_others zero f = refl
products_others (suc n) f = rw (ne_eqb (suc n) 0 (λ z. omega arith)) (ap (λ (x : Float). times x (f (suc n))) (products_others n f))

products_at : (D : ℕ) (f : ℕ → Float) → 1 ≤ D → T (fits binary64 (f 0)) → products D f ≡ others 0 (f 0) D f
products_at zero f h t = absurd (omega arith)
products_at (suc n) f h t = products_others n f ∙ ap (λ (x : Float). others 0 x (suc n) f) (one_times (f 0) t)

module _ (D p P : ℕ) (t : List Float) (x : (i a : ℕ) → Float) (some : 1 ≤ p) where
  module _ (factors : List Float) (made : factors ≡ column_major P (D * p) (on_axes (S p t) p x)) where
    values_right : 1 ≤ D → column_major P (p ^ D) (started_of D p P 0 factors factors) ≡ column_major P (p ^ D) (value D p t x)
    unfolding value
    values_right one =
        column_cong P (started_of D p P 0 factors factors) (p ^ D) (value D p t x)
        (λ i k b m. others_cong 0 _ _ D _ _ (axis_entry D p P x some (S p t) factors made i k 0 b one)
        (λ a h z. axis_entry D p P x some (S p t) factors made i k a b h)
        ∙ sym (products_at D (factor D p t x i k) one (S_fits p t _ _)))

    gradients_right : (side : Float) (slopes : List Float) → slopes ≡ column_major P (D * p) (on_axes (S' p side t) p x) →
        column_major P (D * p ^ D) (gradient_of D p P slopes factors) ≡ column_major P (D * p ^ D) (gradient D p t x side)
    unfolding gradient
    gradients_right side slopes e =
        column_cong P (gradient_of D p P slopes factors) (D * p ^ D) (gradient D p t x side)
        (λ i c b m. let nodes : 0 < p ^ D = some_rows D (p ^ D) c m in
        others_cong (c / p ^ D) _ _ D _ _ (axis_entry D p P x some (S' p side t) slopes e i (c % p ^ D) (c / p ^ D) b
        ((div-lt_iff_lt-mul nodes).1 m))
        (λ a h d. axis_entry D p P x some (S p t) factors made i (c % p ^ D) a b h))

  -- ALL OF THE MEMORY
  pub memory_right : (side : Float) (with : Bool) → 1 ≤ D → (v g₀ g f d₀ d : List Float) →
      f ≡ column_major P (D * p) (on_axes (S p t) p x) →
      length d₀ ≡ size_if with (D * p * P) → d ≡ cond with (column_major P (D * p) (on_axes (S' p side t) p x)) d₀ →
      length g₀ ≡ size_if with (D * p ^ D * P) → g ≡ cond with (column_major P (D * p ^ D) (gradient_of D p P d f)) g₀ →
      v ≡ column_major P (p ^ D) (started_of D p P 0 f f) →
      (v, g, f, d) ≡ filled D p P side with t x
  memory_right side with one v g₀ g f d₀ d hf ld hd lg hg hv =
      let pd : d ≡ cond with (column_major P (D * p) (on_axes (S' p side t) p x)) [] = emptied with _ d _ d₀ ld hd in
      let pg : g ≡ cond with (column_major P (D * p ^ D) (gradient D p t x side)) [] =
      emptied with _ g _ g₀ lg (hg ∙ if_wanted with _ _ g₀ (λ w. gradients_right f hf side d (rw w at pd))) in
      let pv = hv ∙ values_right f hf one in
      rw (pv, pg, hf, pd)

-- WHAT IS WANTED, by its side and whether it has gradients
pub wanted_filled : (D p P : ℕ) (wanted : Wanted) (t : List Float) (x : (i a : ℕ) → Float) →
    filled D p P (side_of wanted) (with_gradients wanted) t x ≡ leaves D p P wanted t x
unfolding leaves
wanted_filled D p P Values t x = refl
wanted_filled D p P (Gradients side) t x = refl
