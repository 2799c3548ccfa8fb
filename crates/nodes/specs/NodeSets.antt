-- The sets of nodes by their numbers.
use Rattle.std.specs.Prelude.{◌≡◌, ℕ, ◌<◌, Result, MatchResult}
use Rattle.common.specs.declared.refusals.Refusal.{Refusal}
use Rattle.common.specs.declared.refusals.Refusal.TheVariants.{NoSet}
use Rattle.nodes.specs.declared.sets.NodeSet.{NodeSet}
use Rattle.nodes.specs.declared.sets.NodeSet.TheVariants.{Rust, MirrorExact}

abbrev pub number_of : NodeSet → ℕ
number_of Rust = 0
number_of MirrorExact = 1

-- the set with this number, or that no set has it
abbrev pub Decodes : ℕ → Result NodeSet Refusal → Type 0
Decodes set r = MatchResult r (λ s. number_of s ≡ set) (λ e. (e ≡ NoSet) × (1 < set))
