-- `exchange_entries::check_entries` meets its contract. The loop keeps what the lines from `at` on say. Assumes nothing.
use mathlib.Core.Path.{◌≡◌, ◌∙◌}
use Prim.Native.Nat.{◌+◌, ◌-◌}
use native.Mathlib.Omega.{arith}
use Rattle.exchange_entries.proofs.Checks.{entry_missing, entries_over, entries_done, entry_bad, entry_good}
use Rattle.exchange_entries.proofs.check_entries.Goals as goal

pub returns-then-text-at : goal.returns-then-text-at
returns-then-text-at c =
    let l = c.loop-i in
    let a = c.args in
    entry_missing (a.from.line + l.i) a.text.now l.at (a.count - l.i) (omega arith) c.if-text-at.true ∙ l.invariant.2

pub returns-in_default : goal.returns-in_default
returns-in_default c =
    let l = c.loop-i in
    let a = c.args in
    entry_bad (a.from.line + l.i) a.text.now l.at c.if-text-at.false (a.count - l.i) (omega arith) c.in_default.ensures ∙ l.invariant.2

pub loop-i-preserved : goal.loop-i-preserved
loop-i-preserved c =
    let l = c.loop-i in
    let a = c.args in
    let n = c.in-Some.ensures in
    let next : a.from.line + (l.i + 1) ≡ (a.from.line + l.i) + 1 = omega arith in
    let left : a.count - (l.i + 1) ≡ (a.count - l.i) - 1 = omega arith in (
      n.1.within,
      omega (arith, l.invariant.1, n.1.further),
      rw (next, left) (entry_good (a.from.line + l.i) a.text.now l.at c.if-text-at.false c.in-Some.next (a.count - l.i) (omega arith)
          n.0 n.1 ∙ l.invariant.2),
    )

pub returns-then-at-text : goal.returns-then-at-text
returns-then-at-text c =
    let l = c.loop-i in
    let a = c.args in
    let all : l.i ≡ a.count = omega arith in
    rw all at (entries_over (a.from.line + l.i) a.text.now l.at (a.count - l.i) (omega arith) c.if-at-text.true ∙ l.invariant.2)

pub returns : goal.returns
returns c =
    let l = c.loop-i in
    let a = c.args in
    entries_done (a.from.line + l.i) a.text.now l.at (a.count - l.i) (omega arith) c.if-at-text.false ∙ l.invariant.2
