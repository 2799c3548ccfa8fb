-- `exchange_lines::words::is_first` meets its contract: the banner, and then the other words in any case. Assumes nothing.
use Rattle.exchange_lines.proofs.Forms.{first_kind, first_not}
use Rattle.exchange_lines.proofs.words.is_first.Goals as goal

pub returns-in-Some : goal.returns-in-Some
returns-in-Some c =
    let h = c.in-Some.ensures.cases in
    first_kind c.args.line.now c.in-Some.kind.now c.eq_ignore_ascii_case.result h.0 h.1 c.eq_ignore_ascii_case.ensures.test

pub returns-in-None : goal.returns-in-None
returns-in-None c = first_not c.args.line.now c.in-None.ensures.cases
