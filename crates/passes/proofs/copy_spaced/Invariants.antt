-- `passes::copy_spaced` meets its contract. The loop keeps: k entries are stored. Assumes nothing.
use mathlib.Core.Path.{◌≡◌}
use Prim.Native.Nat.{◌+◌, ◌*◌}
use Rattle.common.specs.Floats.{spaced}
use Rattle.common.specs.Lists.{stores}
use Rattle.passes.proofs.copy_spaced.Given as goal

abbrev pub invariant-loop-k : goal.invariant-loop-k
invariant-loop-k l =
    l.out ≡ stores (λ n. l.at + l.gap * n) (spaced l.source l.from l.step) l.k l.initial.out
