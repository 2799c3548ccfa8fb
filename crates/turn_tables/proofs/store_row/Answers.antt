-- `turn_tables::store_row` meets its contract. The loop keeps `Storing`: i stores are made, and `to` is the next image. Assumes nothing.
use Rattle.std.proofs.Common.{◌≡◌, ℕ, ◌+◌, ◌<◌, length, refl, ◌∙◌, arith, eq-eqb, ne_eqb}
use Rattle.turn_tables.specs.Working.{stepped}
use Rattle.turn_tables.proofs.Walks.{storing_none, storing_more, place_of, value_of, stored_by}
use Rattle.turn_tables.proofs.store_row.Given.{Over}
use Rattle.turn_tables.proofs.store_row.Goals.{Joined-this-ne0, then-this-ne0, else-this-ne0}
use Rattle.turn_tables.proofs.store_row.Goals as goal

-- in a turn: the next image has a place in the table, and what is stored, and where, is as the flag says
module _ (g : Over) (c : Joined-this-ne0 g) where
  in_table : c.loop-i.to < length c.args.table.now
  in_table = rw c.loop-i.invariant.next (c.requires.images c.loop-i.i c.loop-i-test.true)

  place : c.if-this-ne0.place.0 ≡ place_of g.row.INVERSE (λ j. c.args.node + j) (stepped c.args.image c.args.step) c.loop-i.i
  place =
      elim c.if-this-ne0.branch [
        | then-this-ne0 w ↦ rw (w.place-is, ne_eqb g.row.INVERSE 0 w.if-this-ne0.true) c.loop-i.invariant.next
        | else-this-ne0 w ↦ rw (w.place-is, eq-eqb g.row.INVERSE 0 w.if-this-ne0.false)
      ]

  value : c.if-this-ne0.place.1 ≡ value_of g.row.INVERSE (λ j. c.args.node + j) (stepped c.args.image c.args.step) c.loop-i.i
  value =
      elim c.if-this-ne0.branch [
        | then-this-ne0 w ↦ rw (w.place-is, ne_eqb g.row.INVERSE 0 w.if-this-ne0.true)
        | else-this-ne0 w ↦ rw (w.place-is, eq-eqb g.row.INVERSE 0 w.if-this-ne0.false) c.loop-i.invariant.next
      ]

  within : (c.if-this-ne0.place.0 < length c.args.table.now) × (c.if-this-ne0.place.1 < length c.args.table.now)
  within =
      elim c.if-this-ne0.branch [
        | then-this-ne0 w ↦ rw w.place-is (in_table, omega (arith, c.requires.nodes))
        | else-this-ne0 w ↦ rw w.place-is (omega (arith, c.requires.nodes), in_table)
      ]

pub loop-i-init : goal.loop-i-init
loop-i-init g c = storing_none _ _ c.args.image c.args.step c.args.order c.args.table.now c.ranges.image.fits

pub overflow_cast-table : goal.overflow_cast-table
overflow_cast-table g c = omega (arith, within g c, c.requires.few)

pub bounds-table-place : goal.bounds-table-place
bounds-table-place g c = omega (arith, within g c)

pub loop-i-preserved : goal.loop-i-preserved
loop-i-preserved g c =
    let a = c.args in
    let node : ℕ → ℕ = λ j. a.node + j in
    let image : ℕ → ℕ = stepped a.image a.step in
    storing_more (place_of g.row.INVERSE node image) (value_of g.row.INVERSE node image) a.image a.step a.order a.table.now
    c.loop-i.table c.loop-i.to c.loop-i.i _ _ _ c.loop-i.invariant c.loop-i-test.true (place g c) (value g c) refl

pub returns : goal.returns
returns g c =
    let all : c.loop-i.i ≡ c.args.order = omega arith in
    (rw all at c.loop-i.invariant.made)
    ∙ stored_by g.row.INVERSE (λ j. c.args.node + j) (stepped c.args.image c.args.step) c.args.order c.args.table.now
