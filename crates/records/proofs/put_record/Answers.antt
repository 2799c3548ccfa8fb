-- `records::put_record` meets its contract: the line of what is known of the record's vector. Assumes nothing.
use mathlib.Core.Path.{ap, ◌∙◌}
use Rattle.text.specs.Text.{put}
use Rattle.records.specs.Text.{line, record_line}
use Rattle.records.proofs.put_record.Goals as goal

pub returns-clause-put : goal.returns-clause-put
unfolding record_line
returns-clause-put c =
    let l = c.args.line.now in
    c.put_line.ensures.put ∙ ap (λ w. put l.to (line w) l.bytes.now) c.look_up_bytes.ensures
