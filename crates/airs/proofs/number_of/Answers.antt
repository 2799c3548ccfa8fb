-- `airs::number_of` meets its contract, arm by arm. Assumes nothing.
use borrow.Author.Rules.{rules}
use Rattle.airs.specs.Airs.{number_of}
use Rattle.airs.proofs.number_of.Goals as goal

pub returns-in-Ratio : goal.returns-in-Ratio
unfolding number_of
returns-in-Ratio c = search rules

pub returns-in-Unusable : goal.returns-in-Unusable
unfolding number_of
returns-in-Unusable c = search rules

pub returns-in-Fresh : goal.returns-in-Fresh
unfolding number_of
returns-in-Fresh c = search rules
