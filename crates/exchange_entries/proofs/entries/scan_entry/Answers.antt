-- `exchange_entries::entries::scan_entry` meets its contract: digits after a minus, or from the first byte on. Assumes nothing.
use Rattle.exchange_entries.proofs.Scans.{scan_minus, scan_plain}
use Rattle.exchange_entries.proofs.entries.scan_entry.Goals as goal

pub returns-then-first-eq45 : goal.returns-then-first-eq45
returns-then-first-eq45 c =
    scan_minus c.args.text.now c.args.at c.requires c.if-first-eq45.true c.scan_digits.result c.scan_digits.ensures

pub returns : goal.returns
returns c =
    scan_plain c.args.text.now c.args.at c.requires c.if-first-eq45.false c.scan_digits-2.result c.scan_digits-2.ensures
