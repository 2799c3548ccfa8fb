-- `mending_records::put_taken` meets its contract: the line of a kept record, or the word of a mended one, its places and the line's end.
-- Assumes nothing.
use mathlib.Core.Path.{sym, ap, ◌∙◌}
use mathlib.Core.List.{List, [], ◌∷◌, ◌++◌}
use Prim.Native.Nat.{ℕ}
use lib.ListN.{drop}
use Rattle.text.specs.Text.{put}
use Rattle.text.proofs.Putting.{put_then}
use Rattle.mending_lines.specs.Records.{mended_word, places}
use Rattle.mending_lines.specs.Working.{changed_later}
use Rattle.mending_lines.proofs.Lines.{kept_line_lem, mended_line}
use Rattle.mending_records.proofs.put_taken.Goals as goal

pub returns-then-is_kept-clause-put : goal.returns-then-is_kept-clause-put
returns-then-is_kept-clause-put c =
    let a = c.args in
    let l = a.line.now in
    let none = sym c.is_kept.ensures ∙ c.if-is_kept.true in
    c.put_kept.ensures.put ∙ ap (λ (w : List ℕ). put l.to w l.bytes.now)
    (sym (kept_line_lem (changed_later a.known (drop a.at a.input.now)) none))

pub returns-else-is_kept-clause-put : goal.returns-else-is_kept-clause-put
returns-else-is_kept-clause-put c =
    let a = c.args in
    let l = a.line.now in
    let ks = changed_later a.known (drop a.at a.input.now) in
    let some = sym c.is_kept.ensures ∙ c.if-is_kept.false in
    let rest = put_then _ (places ks) (10 ∷ []) _ c.put_places.ensures.put c.put_byte.ensures.put in
    put_then l.to mended_word (places ks ++ 10 ∷ []) l.bytes.now c.put.ensures.put rest ∙
    ap (λ (c : List ℕ). put l.to c l.bytes.now) (sym (mended_line ks some))
