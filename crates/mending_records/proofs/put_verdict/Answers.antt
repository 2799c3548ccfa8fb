-- `mending_records::put_verdict` meets its contract: each arm puts the line of its own verdict. Assumes nothing.
use mathlib.Core.Path.{sym, ap, ◌∙◌}
use mathlib.Core.List.{List}
use Prim.Native.Nat.{ℕ}
use lib.ListN.{drop}
use Rattle.common.specs.Numbers.{told}
use Rattle.text.specs.Text.{put}
use Rattle.mending_lines.specs.Records.{line}
use Rattle.mending_lines.proofs.Lines.{line_refused, line_taken}
use Rattle.mending_records.proofs.put_verdict.Goals as goal

pub returns-in-Err-clause-put : goal.returns-in-Err-clause-put
unfolding line
returns-in-Err-clause-put c =
    let a = c.args in
    let l = a.line.now in
    let known = sym (ap told c.in-Err.is) ∙ c.requires.1 in
    rw c.number.ensures at c.put_counted.ensures.put ∙ ap (λ (w : List ℕ). put l.to w l.bytes.now)
    (sym (line_refused (drop a.at a.input.now) _ (sym known)))

pub returns-in-Ok-clause-put : goal.returns-in-Ok-clause-put
returns-in-Ok-clause-put c =
    let a = c.args in
    let l = a.line.now in
    let known = sym (ap told c.in-Ok.is) ∙ c.requires.1 in
    c.put_taken.ensures.put ∙ ap (λ (w : List ℕ). put l.to w l.bytes.now)
    (sym (line_taken (drop a.at a.input.now) _ _ (sym known)))
