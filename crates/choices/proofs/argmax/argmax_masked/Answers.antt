-- `choices::argmax::argmax_masked` meets its contract: each return by the tests that led there. Assumes nothing.
use mathlib.Core.Path.{◌≡◌, sym, ap, ◌∙◌}
use borrow.Author.Tests.{le-leb, lt-leb, eq-eqb, ne_eqb}
use Rattle.std.specs.Prelude.{ℕ, Ok}
use Rattle.common.specs.Numbers.{told}
use Rattle.common.specs.Refusals.{most_entries, no_mask, unless}
use Rattle.aca_pivots.specs.Largest.{pivot}
use Rattle.aca_pivots.specs.declared.Pivot.{Pivot}
use Rattle.choices.specs.Argmax.{is_mask, argmax_number, argmax_call}
use Rattle.choices.proofs.argmax.argmax_masked.Goals.{Else-mask-n}
use Rattle.choices.proofs.argmax.argmax_masked.Goals as goal

-- the lists are not too long and have one length: what is left is the mask
sized : (c : Else-mask-n) → let a = c.args in
    argmax_number a.entries.now a.mask.now ≡ unless (is_mask a.mask.now) no_mask 0
unfolding argmax_number
sized c = rw (le-leb _ most_entries c.if-n-gt-MOST_ENTRIES.false, eq-eqb _ _ c.if-mask-n.false)

pub returns-then-n-gt-MOST_ENTRIES : goal.returns-then-n-gt-MOST_ENTRIES
unfolding argmax_call argmax_number
returns-then-n-gt-MOST_ENTRIES c = rw (lt-leb _ most_entries c.if-n-gt-MOST_ENTRIES.true)

pub returns-then-mask-n : goal.returns-then-mask-n
unfolding argmax_call argmax_number
returns-then-mask-n c = rw (le-leb _ most_entries c.if-n-gt-MOST_ENTRIES.false, ne_eqb _ _ c.if-mask-n.true)

pub returns-then-not-is_mask : goal.returns-then-not-is_mask
unfolding argmax_call
returns-then-not-is_mask c = rw (sized (goal.at.returns-then-not-is_mask c).Else-mask-n, sym c.is_mask.ensures ∙ c.if-not-is_mask.true)

pub returns : goal.returns
unfolding argmax_call pivot
returns c =
    rw (sized (goal.at.returns c).Else-mask-n, sym c.is_mask.ensures ∙ c.if-not-is_mask.false)
    (ap (λ (p : Pivot). told {A = ℕ} (Ok p.place)) c.pick.ensures)
