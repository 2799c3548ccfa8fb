-- `mending_counts::count_of` meets its contract. The loop's invariant: the parts before this one are counted. Assumes nothing.
use mathlib.Core.Path.{◌≡◌}
use mathlib.Core.List.{[]}
use borrow.Author.Rules.{rules}
use native.Mathlib.Omega.{arith}
use lib.ListN.{get_or}
use Rattle.mending_counts.specs.Occurrences.{occurs}
use Rattle.mending_counts.proofs.Occurring.{part_length, occurs_part, occurs_rest, occurs_most}
use Rattle.mending_counts.proofs.count_of.Goals as goal

pub loop-part-init : goal.loop-part-init
unfolding occurs
loop-part-init c = search rules

pub loop-part-preserved : goal.loop-part-preserved
loop-part-preserved c =
    let l = c.loop-part in
    let a = c.args in
    let parts = c.as_chunks.result.0.now in
    let e = c.as_chunks.ensures in
    let here : c.from-count.result ≡ occurs a.letter (get_or parts l.part-index []) = search rules in
    let long = part_length a.letter a.text.now parts e.front e.front_len l.part-index c.loop-part-test.true in
    let most = occurs_most a.letter (get_or parts l.part-index []) in
    (omega arith, occurs_part a.letter a.text.now parts e.front e.front_len l.part-index c.loop-part-test.true l.invariant.1 here)

pub returns : goal.returns
returns c =
    let l = c.loop-part in
    let a = c.args in
    let e = c.as_chunks.ensures in
    let last : c.from.result ≡ occurs a.letter c.as_chunks.result.1.now = search rules in
    occurs_rest a.letter a.text.now c.as_chunks.result.0.now e.front e.front_len l.part-index c.as_chunks.result.1.now (omega arith) e.back
    l.invariant.1 last
