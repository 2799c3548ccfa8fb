-- `aca_lines::terms::dot_with` meets its contract: the column is a stretch of the matrix. Assumes nothing.
use mathlib.Core.Path.{refl, ◌∙◌}
use lib.ListN.{length}
use Rattle.aca_lines.proofs.Lines.{whole_in, dot_part, part_in}
use Rattle.aca_lines.proofs.terms.dot_with.Goals as goal

pub dot-requires : goal.dot-requires
dot-requires c =
    (part_in _ c.args.at _ c.args.terms.now refl c.requires, whole_in _)

pub returns : goal.returns
returns c =
    let a = c.args in
    c.dot.ensures ∙ dot_part (length a.line.now) a.at _ a.terms.now a.line.now refl
