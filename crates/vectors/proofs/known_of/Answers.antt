-- `vectors::known_of` meets its contract: field by field. Assumes nothing.
use mathlib.Core.Path.{◌≡◌}
use native.Mathlib.Omega.{arith}
use Rattle.vectors.specs.Working.{each_of, size_of}
use Rattle.common.proofs.Threes.{small_more}
use Rattle.vectors.proofs.Sizes.{near_by}
use Rattle.vectors.proofs.Held.{sizes_small, sizes_past, entry_held}
use Rattle.vectors.proofs.known_of.Goals as goal

pub number_of-requires : goal.number_of-requires
number_of-requires c =
    (omega arith, small_more c.args.dimension 7 16 c.args.d (omega arith) c.requires.0)

pub case_of-requires : goal.case_of-requires
case_of-requires c =
    (c.requires.0, rw c.sizes_of-s.ensures (sizes_small c.args.dimension c.args.d c.requires.0))

pub reference_of-requires : goal.reference_of-requires
reference_of-requires c =
    let small = sizes_small c.args.dimension c.args.d c.requires.0 in
    let past = sizes_past c.args.dimension c.args.d c.requires.0 c.requires.1 in
    rw c.sizes_of-s.ensures (small, past)

pub returns : goal.returns
returns c =
    let D = c.args.dimension in
    let d = c.args.d in
    let sizes : c.sizes_of-s.result ≡ each_of size_of d = c.sizes_of-s.ensures in
    let small = sizes_small D d c.requires.0 in
    let past = sizes_past D d c.requires.0 c.requires.1 in
    entry_held D d c.requires.0 c.number_of.result c.case_of.result c.reference_of.result _
    c.number_of.ensures (rw sizes at c.case_of.ensures)
    (rw sizes at c.reference_of.ensures)
    (rw (c.largest_of.ensures, sizes) (near_by D (each_of size_of d) small past))
