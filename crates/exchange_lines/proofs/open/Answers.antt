-- `exchange_lines::open` meets its contract: the first line, and then the size line. Assumes nothing.
use mathlib.Core.Path.{◌∙◌}
use Rattle.exchange_lines.proofs.Files.{first_good, first_bad}
use Rattle.exchange_lines.proofs.open.Goals as goal

pub returns-then-not-is_first : goal.returns-then-not-is_first
returns-then-not-is_first c =
    let first = c.line_at-first in
    record {
      means = first_bad c.args.text.now first.result.end first.result.next first.ensures c.is_first.result c.is_first.ensures
          c.if-not-is_first.true;
      sound = tt;
    }

pub returns : goal.returns
returns c =
    let first = c.line_at-first in
    record {
      means = c.find_size.ensures.means ∙
          first_good c.args.text.now first.result.end first.result.next first.ensures c.is_first.result c.is_first.ensures
          c.if-not-is_first.false;
      sound = c.find_size.ensures.sound;
    }
