-- `exchange_lines::words::is_passed` meets its contract: a comment by its first byte, a blank line by all. Assumes nothing.
use Rattle.exchange_lines.proofs.Forms.{passed_comment, passed_blank}
use Rattle.exchange_lines.proofs.words.is_passed.Goals as goal

pub returns-then-starts_with : goal.returns-then-starts_with
returns-then-starts_with c = passed_comment c.args.line.now c.starts_with.result c.starts_with.ensures.value c.if-starts_with.true

pub returns-else-starts_with : goal.returns-else-starts_with
returns-else-starts_with c =
    passed_blank c.args.line.now c.starts_with.result c.starts_with.ensures.value c.if-starts_with.false c.is_blank.result
    c.is_blank.ensures
