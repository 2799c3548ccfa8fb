-- Products over the axes: from their sources, by which axis they start with. Assumes nothing.
use mathlib.Core.Path.{◌≡◌, refl, ap, ◌∙◌}
use mathlib.Core.List.{List}
use Prim.Native.Nat.{ℕ, zero, suc, ◌+◌, ◌-◌, ◌*◌, ◌<◌, ◌≤◌}
use native.Mathlib.Omega.{arith}
use lib.Arith.{digits_lt, digits_div, digits_mod}
use lib.Dec.{eqb, leb}
use lib.Ieee.{Float, nan}
use lib.ListN.{length, get_or}
use borrow.Author.Tests.{leb-false}
use Rattle.common.specs.Digits.{digit}
use Rattle.common.specs.Floats.{times}
use Rattle.common.specs.Lists.{tabulate}
use Rattle.common.specs.Matrices.{column_major}
use Rattle.common.specs.Refusals.{Shape}
use Rattle.common.proofs.Cases.{by_bool, by_eq}
use Rattle.common.proofs.Digits.{digit_below}
use Rattle.common.proofs.Fill.{tabulate_cong, part_read}
use Rattle.common.proofs.Matrices.{column_fits, column_cong, column_entry}
use Rattle.axes.proofs.Stretches.{part}
use Rattle.axes.specs.Axes.{on_axes}
use Rattle.products.specs.Products.{others, three, chain, place_of, product_of, started_of, Sources}
use Rattle.products.specs.Working.{second_axis, third_axis}

-- the column of an axis is one of a buffer's
pub place_fits : (D p P k a : ℕ) → 1 ≤ p → a < D → place_of D p P k a + P ≤ D * p * P
place_fits D p P k a some l = column_fits (a * p + digit p D a k) (D * p) P _ (digits_lt l (digit_below p D a k some)) refl

-- THREE of a kind
module _ {A : Type 0} (a b c : A) where
  pub each_three : (P : A → Type 0) → P a → P b → P c → (m : ℕ) → P (three a b c m)
  unfolding three
  each_three P x y z zero = x
  each_three P x y z (suc zero) = y
  each_three P x y z (suc (suc m)) = z

-- THE AXES of a product that starts with one of them

pub second_below : (D g : ℕ) → 1 ≤ D → second_axis D g < D
second_below D g h =
    by_bool (leb D 1) (λ e. rw e h) (λ e. rw e (let more : 1 < D = leb-false D 1 e in by_bool (eqb g 0) (λ z. rw z more) (λ z. rw z h)))

pub third_below : (D g : ℕ) → 1 ≤ D → third_axis D g < D
third_below D g h =
    by_bool (leb D 2) (λ e. rw e (omega arith))
    (λ e. rw e (let more : 2 < D = leb-false D 2 e in by_bool (eqb g 2) (λ z. rw z (omega arith)) (λ z. rw z more)))

-- a product that starts with an axis and goes on with the others is the product of its sources
started : (D g : ℕ) (v : Float) (f h : ℕ → Float) → 1 ≤ D → D ≤ 3 → g < D → h 0 ≡ v → h 1 ≡ f (second_axis D g) → h 2 ≡ f (third_axis D g) →
    chain (D - 1) h ≡ others g v D f
unfolding chain others
started zero g v f h least most b x y z = absurd (omega arith)
started (suc zero) zero v f h least most b x y z = x
started (suc zero) (suc g) v f h least most b x y z = absurd (omega arith)
started (suc (suc zero)) zero v f h least most b x y z = rw (x, y)
started (suc (suc zero)) (suc zero) v f h least most b x y z = rw (x, y)
started (suc (suc zero)) (suc (suc g)) v f h least most b x y z = absurd (omega arith)
started (suc (suc (suc zero))) zero v f h least most b x y z = rw (x, y, z)
started (suc (suc (suc zero))) (suc zero) v f h least most b x y z = rw (x, y, z)
started (suc (suc (suc zero))) (suc (suc zero)) v f h least most b x y z = rw (x, y, z)
started (suc (suc (suc zero))) (suc (suc (suc g))) v f h least most b x y z = absurd (omega arith)
started (suc (suc (suc (suc D)))) g v f h least most b x y z = absurd (omega arith)

module _ (D p P g s t : ℕ) (starts factors : List Float) (shape : Shape D p) (axis : g < D) (second : s ≡ second_axis D g)
    (third : t ≡ third_axis D g) where
  pub sources : length starts ≡ D * p * P → length factors ≡ D * p * P →
      Sources D p P (three g s t) (three starts factors factors)
  sources a b =
      record {
        axis = each_three g s t (λ n. n < D) axis (rw second (second_below D g shape.dimension_least))
            (rw third (third_below D g shape.dimension_least));
        long = each_three starts factors factors (λ l. length l ≡ D * p * P) a b b;
      }

  pub started_columns : (columns : ℕ) →
      column_major P columns (product_of D p P (three g s t) (three starts factors factors)) ≡
      column_major P columns (started_of D p P g starts factors)
  unfolding three
  started_columns columns =
      column_cong P _ columns _
      (λ i k _ _. started D g _ _ _ shape.dimension_least shape.dimension_most axis refl
      (ap (λ (a : ℕ). get_or factors (place_of D p P k a + i) nan) second) (ap (λ (a : ℕ). get_or factors (place_of D p P k a + i) nan) third))

-- the same start and the same factors
pub others_cong : (g : ℕ) (v w : Float) (n : ℕ) (f h : ℕ → Float) → v ≡ w → ((a : ℕ) → a < n → (a ≡ g → ⊥) → f a ≡ h a) →
    others g v n f ≡ others g w n h
unfolding others
others_cong g v w zero f h e same = e
others_cong g v w (suc n) f h e same =
    let before = others_cong g v w n f h e (λ a l d. same a (omega arith) d) in
    by_eq n g (λ i t. rw t before) (λ i t. rw (t, before, same n (omega arith) i))

-- WHAT SOURCES SAY of the three axes and buffers
module _ (D p P f s t : ℕ) (F S T : List Float) (some : 1 ≤ p) (h : Sources D p P (three f s t) (three F S T)) where
  pub source_axes : (f < D) × (s < D) × (t < D)
  unfolding three
  source_axes = (h.axis 0, h.axis 1, h.axis 2)

  -- the columns of a node are within them
  pub source_room : (k : ℕ) → (place_of D p P k f + P ≤ length F) × (place_of D p P k s + P ≤ length S) × (place_of D p P k t + P ≤ length T)
  unfolding three
  source_room k = (
    rw (h.long 0) (place_fits D p P k f some (h.axis 0)),
    rw (h.long 1) (place_fits D p P k s some (h.axis 1)),
    rw (h.long 2) (place_fits D p P k t some (h.axis 2)),
  )

-- the product of a node's columns, as they are lent
chain_cong : (n : ℕ) (f g : ℕ → Float) → ((m : ℕ) → f m ≡ g m) → chain n f ≡ chain n g
unfolding chain
chain_cong zero f g h = h zero
chain_cong (suc n) f g h = rw (chain_cong n f g h, h (suc n))

module _ (D p P k f s t : ℕ) (F S T : List Float) (a b c : ℕ) (ea : a ≡ place_of D p P k f) (eb : b ≡ place_of D p P k s)
    (ec : c ≡ place_of D p P k t) where
  parts_read : (i : ℕ) → i < P → (m : ℕ) →
      get_or (three (part F a P) (part S b P) (part T c P) m) i nan ≡ get_or (three F S T m) (place_of D p P k (three f s t m) + i) nan
  unfolding three
  parts_read i h zero = part_read a _ P F i nan refl h ∙ ap (λ (n : ℕ). get_or F (n + i) nan) ea
  parts_read i h (suc zero) = part_read b _ P S i nan refl h ∙ ap (λ (n : ℕ). get_or S (n + i) nan) eb
  parts_read i h (suc (suc m)) = part_read c _ P T i nan refl h ∙ ap (λ (n : ℕ). get_or T (n + i) nan) ec

  pub product_lent : tabulate P (λ i. chain (D - 1) (λ m. get_or (three (part F a P) (part S b P) (part T c P) m) i nan)) ≡
      tabulate P (λ i. product_of D p P (three f s t) (three F S T) i k)
  product_lent = tabulate_cong P _ _ (λ i h. chain_cong (D - 1) _ _ (parts_read i h))

-- PRODUCTS of columns, by the dimension
module _ (D : ℕ) (a b c : List Float) where
  abbrev entries : ℕ → ℕ → Float
  entries i m = get_or (three a b c m) i nan

  pub product_one : D ≡ 1 → (i : ℕ) → get_or a i nan ≡ chain (D - 1) (entries i)
  unfolding chain three
  product_one d i = rw d

  pub product_two : D ≡ 2 → (i : ℕ) → times (get_or a i nan) (get_or b i nan) ≡ chain (D - 1) (entries i)
  unfolding chain three
  product_two d i = rw d

  pub product_three : D ≡ 3 → (i : ℕ) → times (times (get_or a i nan) (get_or b i nan)) (get_or c i nan) ≡ chain (D - 1) (entries i)
  unfolding chain three
  product_three d i = rw d

-- S, or what else is found on all axes, at the index of node k on axis a
module _ (D p P : ℕ) (x : (i a : ℕ) → Float) (some : 1 ≤ p) where
  pub axis_entry : (f : ℕ → Float → Float) (l : List Float) → l ≡ column_major P (D * p) (on_axes f p x) → (i k a : ℕ) → i < P → a < D →
      get_or l (place_of D p P k a + i) nan ≡ f (digit p D a k) (x i a)
  axis_entry f l e i k a b m =
      let d = digit_below p D a k some in
      rw e (column_entry P (on_axes f p x) (D * p) i (a * p + digit p D a k) nan b (digits_lt m d) ∙ rw (digits_mod a d, digits_div a d))
