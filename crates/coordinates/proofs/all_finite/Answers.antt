-- `coordinates::all_finite` meets its contract: the iterator's test of all entries is that of each place. Assumes nothing.
use mathlib.Core.Path.{sym, ◌∙◌}
use lib.Ieee.{nan}
use lib.Ieee.Scale.{finite}
use borrow.Author.Rules.{rules}
use Rattle.std.proofs.Common.{tests}
use Rattle.std.proofs.lemmas.Iterator.{YieldsList-from_slice}
use Rattle.std.proofs.lemmas.Iterator.Search.{all_from_yields_List}
use Rattle.coordinates.proofs.Numbers.{each_listed}
use Rattle.coordinates.specs.Coordinates.{all_finite}
use Rattle.coordinates.proofs.all_finite.Goals as goal

pub returns : goal.returns
unfolding all_finite
returns c =
    all_from_yields_List finite _ _ _ c.all.ensures.ran (YieldsList-from_slice c.args.list.now cc) (λ x b q k. search (rules, tests))
    ∙ sym (each_listed c.args.list.now finite nan)
