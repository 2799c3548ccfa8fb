-- `text::Line::put_number` meets its contract: one digit, or the digits that `io` makes, are those of the number's text. Assumes nothing.
use mathlib.Core.Path.{sym, ap, ◌∙◌}
use mathlib.Core.List.{List}
use Prim.Native.Nat.{ℕ}
use Rattle.text.specs.Text.{put}
use Rattle.text.proofs.Numbers.{one_digit, fewest_decimal}
use Rattle.text.proofs.Line.put_number.Goals as goal

pub returns-then-n-lt10-clause-put : goal.returns-then-n-lt10-clause-put
returns-then-n-lt10-clause-put c =
    let l = c.args.self.now in
    c.put_byte.ensures.put ∙ ap (λ (w : List ℕ). put l.to w l.bytes.now) (sym (one_digit c.args.n c.if-n-lt10.true))

pub returns-else-n-lt10-clause-put : goal.returns-else-n-lt10-clause-put
returns-else-n-lt10-clause-put c =
    let l = c.args.self.now in
    let word = c.decimal-count.ensures.digits ∙ fewest_decimal c.decimal-count.result c.args.n c.ranges.n.fits
    c.decimal-count.ensures.len in
    c.put.ensures.put ∙ ap (λ (w : List ℕ). put l.to w l.bytes.now) word
