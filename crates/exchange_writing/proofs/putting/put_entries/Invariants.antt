-- `exchange_writing::putting::put_entries` meets its contract. The loop keeps that the lines of the first entries are put. Assumes
-- nothing.
use Rattle.std.proofs.Common.{◌≡◌, ℕ, List, take}
use Rattle.text.specs.Text.{put}
use Rattle.exchange_writing.specs.Working.{spelled}
use Rattle.exchange_writing.proofs.putting.put_entries.Given as goal

abbrev pub invariant-loop-x : goal.invariant-loop-x
invariant-loop-x l = record {
  same : l.line.bytes.ghost_name ≡ l.initial.line.bytes.ghost_name;
  put : ◌≡◌ {A = ℕ × List ℕ} (l.line.to, l.line.bytes.now)
      (put l.initial.line.to (spelled (take l.x-index l.block)) l.initial.line.bytes.now);
}
