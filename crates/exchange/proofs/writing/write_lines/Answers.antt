-- `exchange::writing::write_lines` meets its contract: a text that is too short, or one line after the other. Assumes nothing.
use mathlib.Core.Path.{◌≡◌, ◌∙◌}
use mathlib.Core.List.{◌++◌}
use Prim.Native.Nat.{◌+◌, ◌≤◌}
use native.Mathlib.Omega.{arith}
use lib.ListN.{length, length-append}
use Rattle.std.proofs.Common.{rules}
use Rattle.text.specs.Text.{decimal, put}
use Rattle.text.proofs.Numbers.{decimal_length}
use Rattle.text.proofs.Putting.{put_then}
use Rattle.exchange_writing.specs.Working.{head_text, spelled}
use Rattle.exchange_writing.proofs.Spellings.{head_length}
use Rattle.exchange.proofs.WriteCalls.{text_short, text_fits}
use Rattle.exchange.proofs.writing.write_lines.Goals.{After-digit_count-2}
use Rattle.exchange.proofs.writing.write_lines.Goals as goal

-- how long the text is, and that this fits
total : (c : After-digit_count-2) →
    let a = c.args in
    (c.digit_count.result + c.digit_count-2.result + 46 + a.long
    ≡ length (head_text a.rows a.columns ++ spelled a.block.now))
    × (c.digit_count.result ≤ 20) × (c.digit_count-2.result ≤ 20)
total c =
    let a = c.args in
    let r : c.digit_count.result ≡ length (decimal a.rows) = c.digit_count.ensures in
    let k : c.digit_count-2.result ≡ length (decimal a.columns) = c.digit_count-2.ensures in
    let head = head_length a.rows a.columns in
    let long : a.long ≡ length (spelled a.block.now) = c.requires.0 in (
      rw length-append (omega arith),
      omega (arith, decimal_length a.rows),
      omega (arith, decimal_length a.columns),
    )

pub overflow_add-head : goal.overflow_add-head
overflow_add-head c = let t = total (goal.at.overflow_add-head c).After-digit_count-2 in omega (arith, t.1, t.2)

pub overflow_add-head-2 : goal.overflow_add-head-2
overflow_add-head-2 c = let t = total (goal.at.overflow_add-head-2 c).After-digit_count-2 in omega (arith, t.1, t.2)

pub overflow_add-head-3 : goal.overflow_add-head-3
overflow_add-head-3 c = let t = total (goal.at.overflow_add-head-3 c).After-digit_count-2 in omega (arith, t.1, t.2, c.requires.1)

pub returns-then-text-head : goal.returns-then-text-head
returns-then-text-head c =
    let a = c.args in
    text_short a.text.now (head_text a.rows a.columns ++ spelled a.block.now)
    (omega (arith, (total (goal.at.returns-then-text-head c).After-digit_count-2).0, c.if-text-head.true))

pub returns : goal.returns
returns c =
    let a = c.args in
    let l = c.new-line in
    let first = head_text a.rows a.columns in
    let rest = spelled a.block.now in
    let both = put_then l.result.to first rest l.result.bytes.now c.put_head.ensures.put c.put_entries.ensures.put in
    let begun : put l.result.to (first ++ rest) l.result.bytes.now ≡ put 0 (first ++ rest) a.text.now = rw (l.ensures.to, l.ensures.bytes) in
    text_fits a.text.now (first ++ rest) (omega (arith, (total (goal.at.returns c).After-digit_count-2).0, c.if-text-head.false)) _ _
    (search (rules, both ∙ begun))
