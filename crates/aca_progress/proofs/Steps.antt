-- A reason is known by its number, and what a step answers by what is told of it. Assumes nothing.
use mathlib.Core.Path.{◌≡◌, refl, sym, ap, ◌∙◌}
use Prim.Native.Nat.{ℕ, zero, suc}
use Rattle.std.specs.declared.ops.ControlFlow.{ControlFlow}
use Rattle.std.specs.declared.ops.ControlFlow.TheVariants.{Continue, Break}
use Rattle.aca_progress.specs.declared.Progress.{Progress}
use Rattle.aca_progress.specs.declared.Stop.{Stop as Reason}
use Rattle.aca_progress.specs.declared.Stop.TheVariants as reason
use Rattle.aca_progress.specs.Steps.{stop_number, step_of}

numbered : ℕ → Reason
numbered (suc zero) = reason.Tolerable
numbered (suc (suc zero)) = reason.Spent
numbered (suc (suc (suc zero))) = reason.UsedUp
numbered n = reason.AllTried

by_number : (w : Reason) → numbered (stop_number w) ≡ w
unfolding numbered
by_number reason.Tolerable = refl
by_number reason.Spent = refl
by_number reason.UsedUp = refl
by_number reason.AllTried = refl

pub stop_same : (w w' : Reason) → stop_number w ≡ stop_number w' → w ≡ w'
stop_same w w' e = sym (by_number w) ∙ ap numbered e ∙ by_number w'

pub step_same : (r r' : ControlFlow (Reason × Progress) Progress) → step_of r ≡ step_of r' → r ≡ r'
step_same (Continue s) (Continue s') e = cc
step_same (Continue s) (Break (w, s')) e = cc
step_same (Break (w, s)) (Continue s') e = cc
step_same (Break (w, s)) (Break (w', s')) e =
    let why : stop_number w ≡ stop_number w' = cc in
    let state : s ≡ s' = cc in
    rw (stop_same w w' why, state)
