-- `records::put_line` meets its contract: each arm puts the line of its own variant. Assumes nothing.
use mathlib.Core.Path.{sym, ap, ◌∙◌}
use Rattle.std.specs.Prelude.{Result}
use Rattle.common.specs.Numbers.{told}
use Rattle.common.specs.declared.refusals.Refusal.{Refusal}
use Rattle.text.specs.Text.{put}
use Rattle.vectors.specs.declared.Known.{Known}
use Rattle.records.specs.Text.{line}
use Rattle.records.proofs.put_line.Goals as goal

pub returns-in-Ok-clause-put : goal.returns-in-Ok-clause-put
unfolding line
returns-in-Ok-clause-put c =
    let l = c.args.line.now in
    c.put_known.ensures.put ∙ ap (λ (f : Result Known Refusal). put l.to (line (told f)) l.bytes.now) (sym c.in-Ok.is)

pub returns-in-Err-clause-put : goal.returns-in-Err-clause-put
unfolding line
returns-in-Err-clause-put c =
    let l = c.args.line.now in
    rw c.number.ensures at c.put_counted.ensures.put ∙
    ap (λ (f : Result Known Refusal). put l.to (line (told f)) l.bytes.now) (sym c.in-Err.is)
