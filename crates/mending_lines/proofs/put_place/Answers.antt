-- `mending_lines::put_place` meets its contract: nothing, or a space and the number. Assumes nothing.
use mathlib.Core.Path.{sym, ap, ◌∙◌}
use mathlib.Core.List.{List}
use Prim.Native.Nat.{ℕ}
use Rattle.text.specs.Text.{put}
use Rattle.mending_lines.proofs.Lines.{place_same, place_other}
use Rattle.mending_lines.proofs.Stored.{put_nothing}
use Rattle.mending_lines.proofs.put_place.Goals as goal

pub returns-then-not-is_same-clause-put : goal.returns-then-not-is_same-clause-put
returns-then-not-is_same-clause-put c =
    let a = c.args in
    let l = a.line.now in
    c.put_next.ensures.put ∙ ap (λ (w : List ℕ). put l.to w l.bytes.now)
    (sym (place_other a.place a.old a.new (sym c.is_same.ensures ∙ c.if-not-is_same.true)))

pub returns-else-not-is_same-clause-put : goal.returns-else-not-is_same-clause-put
returns-else-not-is_same-clause-put c =
    let a = c.args in
    let l = a.line.now in
    put_nothing l.bytes.now l.to ∙ ap (λ (w : List ℕ). put l.to w l.bytes.now)
    (sym (place_same a.place a.old a.new (sym c.is_same.ensures ∙ c.if-not-is_same.false)))
