-- `exchange_lines::find_size` meets its contract. The loop keeps what the lines from `at` on say. Assumes nothing.
use mathlib.Core.Path.{◌∙◌}
use native.Mathlib.Omega.{arith}
use Rattle.exchange_lines.proofs.Files.{size_missing, size_later, size_here}
use Rattle.exchange_lines.proofs.find_size.Goals as goal

pub loop-at-preserved : goal.loop-at-preserved
loop-at-preserved c =
    let a = c.args in
    let y = c.line_at-line in
    let far = y.ensures.further c.loop-at-test.true in (
      y.ensures.within,
      omega (arith, c.loop-at.invariant.1),
      size_later c.loop-at.k a.text.now c.loop-at.at y.result.end y.result.next y.ensures
          c.loop-at-test.true
          c.is_passed.result c.is_passed.ensures c.if-not-is_passed.false ∙ c.loop-at.invariant.2,
    )

pub returns-then-not-is_passed : goal.returns-then-not-is_passed
returns-then-not-is_passed c =
    let a = c.args in
    let y = c.line_at-line in
    record {
      means = c.size_at.ensures.means ∙
          size_here c.loop-at.k a.text.now c.loop-at.at y.result.end y.result.next y.ensures
          c.loop-at-test.true
          c.is_passed.result c.is_passed.ensures c.if-not-is_passed.true ∙ c.loop-at.invariant.2;
      sound = c.size_at.ensures.sound;
    }

pub returns : goal.returns
returns c =
    let a = c.args in
    record { means = size_missing c.loop-at.k a.text.now c.loop-at.at c.loop-at-test.false ∙ c.loop-at.invariant.2; sound = tt }
