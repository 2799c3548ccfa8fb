-- What the sampler's number says, by the tests that lead to it, and what the call then answers and leaves. Assumes nothing.
use mathlib.Core.Path.{◌≡◌, sym, ap, ◌∙◌}
use mathlib.Core.Bool.{true, false}
use mathlib.Core.List.{List}
use Prim.Native.Nat.{ℕ, ◌*◌, ◌^◌, ◌<◌, ◌≤◌}
use native.Mathlib.Omega.{arith}
use lib.Dec.{ltb}
use lib.Ieee.{Float, nan}
use lib.ListN.{length}
use borrow.Author.Tests.{eqb-true, eq-eqb, le-leb, lt-leb, leb-true}
use Rattle.common.specs.Refusals.{is_cell, Shape, shape_number, most_entries}
use Rattle.common.specs.Matrices.{matrix, column_major}
use Rattle.common.proofs.Cases.{equal_and}
use Rattle.common.proofs.Limits.{shape_out, shape_past, shape_passed, passed, call_refused, call_done, left_done}
use Rattle.common.proofs.Matrices.{column_length, column_cong, column_entry}
use Rattle.vectors.specs.Vectors.{references}
use Rattle.point_columns.specs.Blocks.{points_of}
use Rattle.points.specs.Points.{target_point, source_point, sizes_number, target_number, source_number, target_call, source_call}
use Rattle.roots.specs.Values.{root}
use Rattle.distances.specs.declared.Lengths.{Lengths}
use Rattle.distances.specs.Distances.{sample, Memory, lengths, lengths_fit, sample_number, sampled, sample_call}
use Rattle.distances.specs.Working.{between, Points}
use Rattle.distances.proofs.Columns.{added_cong}

-- THE NUMBER

module _ (D p : ℕ) (side : Float) (i : ℕ) (l : Lengths) where
  pub number_shape : (shape_number D p ≡ 0 → ⊥) → shape_number D p ≡ sample_number D p side i l
  unfolding sample_number
  number_shape = shape_out D p _

  module _ (s : Shape D p) where
    pub number_count : most_entries < p ^ D → 3 ≡ sample_number D p side i l
    unfolding sample_number
    number_count h = sym (shape_past D p _ s ∙ rw (lt-leb (p ^ D) most_entries h))

    module _ (few : p ^ D ≤ most_entries) where
      pub number_case : ltb i (length (references D)) ≡ false → 5 ≡ sample_number D p side i l
      unfolding sample_number
      number_case h = sym (shape_past D p _ s ∙ rw (le-leb (p ^ D) most_entries few, h))

      module _ (there : ltb i (length (references D)) ≡ true) where
        pub number_length : lengths_fit D p l ≡ false → 7 ≡ sample_number D p side i l
        unfolding sample_number
        number_length h = sym (shape_past D p _ s ∙ rw (le-leb (p ^ D) most_entries few, there, h))

        module _ (fit : lengths_fit D p l ≡ true) where
          pub number_cell : is_cell side ≡ false → 8 ≡ sample_number D p side i l
          unfolding sample_number
          number_cell h = sym (shape_past D p _ s ∙ rw (le-leb (p ^ D) most_entries few, there, fit, h))

          pub number_none : is_cell side ≡ true → 0 ≡ sample_number D p side i l
          unfolding sample_number
          number_none h = sym (shape_past D p _ s ∙ rw (le-leb (p ^ D) most_entries few, there, fit, h))

  -- a call that is not refused
  pub record Taken : Type 0 where
    pub shape : Shape D p
    pub few : p ^ D ≤ most_entries
    pub there : ltb i (length (references D)) ≡ true
    pub nodes : l.nodes ≡ p
    pub sources : l.sources ≡ D * p ^ D
    pub targets : l.targets ≡ D * p ^ D
    pub block : l.block ≡ p ^ D * p ^ D
    pub cell : is_cell side ≡ true

  pub number_taken : sample_number D p side i l ≡ 0 → Taken
  unfolding sample_number lengths_fit
  number_taken z =
      let a = shape_passed D p _ z in
      let b = passed _ 2 _ a.1 in
      let c = passed _ 4 _ b.1 in
      let d = passed _ 6 _ c.1 in
      let e = passed _ 7 _ d.1 in
      let n = equal_and l.nodes p _ d.0 in
      let s = equal_and l.sources (D * p ^ D) _ n.1 in
      let t = equal_and l.targets (D * p ^ D) _ s.1 in
      record {
        shape = a.0;
        few = leb-true (p ^ D) most_entries b.0;
        there = c.0;
        nodes = n.0;
        sources = s.0;
        targets = t.0;
        block = eqb-true l.block (p ^ D * p ^ D) t.1;
        cell = e.0;
      }

  -- what `fill_block` asks for, of points that fill both lists
  pub block_fits : Taken → (rows : ℕ) (sources targets : List Float) (f g : ℕ → ℕ → Float) → rows ≡ p ^ D →
      sources ≡ points_of D p f → targets ≡ points_of D p g → Points D rows (length sources) (length targets) × (l.block ≡ rows * rows)
  block_fits h rows sources targets f g e s t =
      rw e (
        record {
          some = h.shape.dimension_least;
          most = h.shape.dimension_most;
          few = h.few;
          sources_long = rw s (column_length (p ^ D) f D);
          targets_long = rw t (column_length (p ^ D) g D);
        },
        h.block,
      )

  -- WHAT THE POINT CALLS ANSWER AND LEAVE: neither refuses

  sizes_none : (n m : ℕ) → is_cell side ≡ true → n ≡ p → m ≡ D * p ^ D → sizes_number D p side n m ≡ 0
  unfolding sizes_number
  sizes_none n m c e f = rw (eq-eqb n p e, eq-eqb m (D * p ^ D) f, c)

  pub sources_filled : (nodes before after : List Float) (r : ℕ) → Taken → length nodes ≡ p → length before ≡ D * p ^ D →
      (r, after) ≡ source_call D p side i nodes before → (r ≡ 0) × (after ≡ points_of D p (source_point D p side i nodes))
  unfolding source_call source_number
  sources_filled nodes before after r h n b e =
      let none : source_number D p side i (length nodes) (length before) ≡ 0 =
      shape_past D p _ h.shape ∙ rw h.there (sizes_none (length nodes) (length before) h.cell n b) in
      (ap (λ (t : ℕ × List Float). t.0) e ∙ none, ap (λ (t : ℕ × List Float). t.1) e ∙ left_done _ _ before none)

  pub targets_filled : (nodes before after : List Float) (r : ℕ) → Taken → length nodes ≡ p → length before ≡ D * p ^ D →
      (r, after) ≡ target_call D p side nodes before → (r ≡ 0) × (after ≡ points_of D p (target_point D p side nodes))
  unfolding target_call target_number
  targets_filled nodes before after r h n b e =
      let none : target_number D p side (length nodes) (length before) ≡ 0 =
      shape_past D p _ h.shape ∙ sizes_none (length nodes) (length before) h.cell n b in
      (ap (λ (t : ℕ × List Float). t.0) e ∙ none, ap (λ (t : ℕ × List Float). t.1) e ∙ left_done _ _ before none)

-- THE BLOCK between those points

block_filled : (D p : ℕ) (side : Float) (i : ℕ) (nodes sources targets : List Float) → 1 ≤ D →
    sources ≡ points_of D p (source_point D p side i nodes) → targets ≡ points_of D p (target_point D p side nodes) →
    column_major (p ^ D) (p ^ D) (between D (p ^ D) sources targets) ≡ column_major (p ^ D) (p ^ D) (sample D p side i nodes)
block_filled D p side i nodes sources targets some s t =
    column_cong (p ^ D) (between D (p ^ D) sources targets) (p ^ D) (sample D p side i nodes)
    (λ n m h b. ap root (added_cong _ _ _ (λ a l.
    let axis : a < D = omega arith in
    let source : matrix (p ^ D) sources n a ≡ source_point D p side i nodes n a =
    rw s (column_entry (p ^ D) (source_point D p side i nodes) D n a nan h axis) in
    let target : matrix (p ^ D) targets m a ≡ target_point D p side nodes m a =
    rw t (column_entry (p ^ D) (target_point D p side nodes) D m a nan b axis) in
    rw (source, target))))

-- WHAT THE CALL ANSWERS AND LEAVES, with the number r

module _ (D p : ℕ) (side : Float) (i : ℕ) (nodes : List Float) (t : Memory) (r : ℕ)
    (e : r ≡ sample_number D p side i (lengths nodes t)) where
  pub sample_refused : (r ≡ 0 → ⊥) → ◌≡◌ {A = ℕ × Memory} (r, t) (sample_call D p side i nodes t)
  unfolding sample_call
  sample_refused = call_refused r _ (sampled D p side i nodes) t e

  pub sample_done : (rows : ℕ) (sources targets block : List Float) → r ≡ 0 → 1 ≤ D → rows ≡ p ^ D →
      sources ≡ points_of D p (source_point D p side i nodes) → targets ≡ points_of D p (target_point D p side nodes) →
      block ≡ column_major rows rows (between D rows sources targets) →
      ◌≡◌ {A = ℕ × Memory} (0, (sources, targets, block)) (sample_call D p side i nodes t)
  unfolding sample_call
  sample_done rows sources targets block z some n s g b =
      let filled = rw n at b ∙ block_filled D p side i nodes sources targets some s g in
      call_done r _ (sampled D p side i nodes) t e (sources, targets, block) z (rw (s, g, filled))
