-- `exchange_writing::putting::put_entries` meets its contract. The loop keeps that the lines of the first entries are put. Assumes
-- nothing.
use Rattle.std.proofs.Common.{ℕ, List, get_or, take, refl, sym, ap, ◌∙◌}
use lib.Ieee.{nan}
use Rattle.text.specs.Text.{put}
use Rattle.text.proofs.Putting.{put_then}
use Rattle.exchange_writing.specs.Working.{spelt, spelled}
use Rattle.exchange_writing.proofs.Spellings.{put_nothing, spelled_none, spelled_more, spelled_all}
use Rattle.exchange_writing.proofs.putting.put_entries.Goals as goal

pub loop-x-init : goal.loop-x-init
loop-x-init c =
    let l = c.args.line.now in
    record { same = refl; put = put_nothing l.to l.bytes.now ∙ ap (λ (w : List ℕ). put l.to w l.bytes.now) (sym spelled_none) }

pub loop-x-preserved : goal.loop-x-preserved
loop-x-preserved c =
    let i = c.loop-x.x-index in
    let l = c.args.line.now in
    let b = c.args.block.now in
    let both = put_then l.to (spelled (take i b)) (spelt (get_or b i nan)) l.bytes.now c.loop-x.invariant.put c.put_entry.ensures.put in
    record {
      same = c.put_entry.ensures.same ∙ c.loop-x.invariant.same;
      put = both ∙ ap (λ (w : List ℕ). put l.to w l.bytes.now) (sym (spelled_more b i c.loop-x-test.true));
    }

pub returns-clause-put : goal.returns-clause-put
returns-clause-put c =
    let l = c.args.line.now in
    c.loop-x.invariant.put ∙
    ap (λ (w : List ℕ). put l.to w l.bytes.now) (spelled_all c.args.block.now c.loop-x.x-index c.loop-x-test.false)
