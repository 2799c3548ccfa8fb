-- `vectors::check_digits` meets its contract: each return by the tests that led there. Assumes nothing.
use mathlib.Core.Path.{sym, ◌∙◌}
use native.Mathlib.Omega.{arith}
use Rattle.common.specs.Threes.{three}
use Rattle.vectors.proofs.Held.{number_low, number_high, number_entry, number_past, number_none}
use Rattle.vectors.proofs.check_digits.Goals.{then-dimension-lt1-via-then-dimension-lt1}
use Rattle.vectors.proofs.check_digits.Goals.{then-dimension-lt1-via-else-dimension-lt1+then-dimension-gt3}
use Rattle.vectors.proofs.check_digits.Goals as goal

pub returns-then-dimension-lt1 : goal.returns-then-dimension-lt1
returns-then-dimension-lt1 c =
    let D = c.args.dimension in
    elim c.then-dimension-lt1.branch [
      | then-dimension-lt1-via-then-dimension-lt1 w ↦ number_low D (three c.args.d) w.if-dimension-lt1.true
      | then-dimension-lt1-via-else-dimension-lt1+then-dimension-gt3 w ↦ number_high D (three c.args.d) (omega arith) w.if-dimension-gt3.true
    ]

pub returns-then-not-are_entries : goal.returns-then-not-are_entries
returns-then-not-are_entries c =
    number_entry c.args.dimension c.args.d c.if-dimension-lt1.false c.if-dimension-gt3.false c.requires
    (sym c.are_entries.ensures ∙ c.if-not-are_entries.true)

pub returns-then-not-are_zeros : goal.returns-then-not-are_zeros
returns-then-not-are_zeros c =
    number_past c.args.dimension c.args.d c.if-dimension-lt1.false c.if-dimension-gt3.false c.requires
    (sym c.are_entries.ensures ∙ c.if-not-are_entries.false) (sym c.are_zeros.ensures ∙ c.if-not-are_zeros.true)

pub returns : goal.returns
returns c =
    number_none c.args.dimension c.args.d c.if-dimension-lt1.false c.if-dimension-gt3.false c.requires
    (sym c.are_entries.ensures ∙ c.if-not-are_entries.false) (sym c.are_zeros.ensures ∙ c.if-not-are_zeros.false)
