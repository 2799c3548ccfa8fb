-- `exchange_writing::putting::put_entry` meets its contract: the line of the number. That no number has no line is found alone. Assumes
-- nothing.
use Rattle.std.proofs.Common.{ℕ, List, sym, ap, ◌∙◌}
use Rattle.text.specs.Text.{put}
use Rattle.exchange_format.specs.Writing.{whole_of}
use Rattle.exchange_writing.proofs.Spellings.{spelling}
use Rattle.exchange_writing.proofs.putting.put_entry.Goals as goal

pub returns-in-Some-clause-put : goal.returns-in-Some-clause-put
returns-in-Some-clause-put c =
    let l = c.args.line.now in
    c.put_signed.ensures.put ∙
    ap (λ (w : List ℕ). put l.to w l.bytes.now) (sym (spelling c.in-Some.whole (whole_of c.args.x) c.in-Some.ensures))
