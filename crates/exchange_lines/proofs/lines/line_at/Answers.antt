-- `exchange_lines::lines::line_at` meets its contract: the line ends where its newline is found. Assumes nothing.
use Rattle.std.proofs.Common.{◌+◌, length, drop, sym, ◌∙◌, arith, length-drop}
use lib.Dec.{eqb}
use Rattle.exchange_format.specs.Lines.{newline}
use Rattle.exchange_lines.proofs.Scanning.{cut_inside, cut_last, before_most}
use Rattle.exchange_lines.proofs.Parts.{tail, some_place, no_place, before_place}
use Rattle.exchange_lines.proofs.lines.line_at.Goals as goal

pub returns-in-Some : goal.returns-in-Some
returns-in-Some c =
    let a = c.args in
    let rest = drop a.at a.text.now in
    let place = some_place (λ x. eqb x newline) rest c.in-Some.long (rw tail at (sym c.find.ensures ∙ c.in-Some.is)) in
    cut_inside a.text.now a.at (a.at + c.in-Some.long) c.requires (omega (arith, place.0, before_place newline rest))
    (omega (arith, place.1, length-drop a.at a.text.now))

pub returns-in-None : goal.returns-in-None
returns-in-None c =
    let a = c.args in
    let rest = drop a.at a.text.now in
    let over = no_place (λ x. eqb x newline) rest (rw tail at (sym c.find.ensures ∙ c.in-None.is)) in
    cut_last a.text.now a.at (length a.text.now) c.requires
    (omega (arith, over, before_place newline rest, before_most newline rest, length-drop a.at a.text.now)) (omega arith)
