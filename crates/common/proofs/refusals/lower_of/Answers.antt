-- `common::refusals::lower_of` meets its contract: each return by the answers that led there. Assumes nothing.
use mathlib.Core.Path.{◌≡◌, sym}
use Prim.Native.Nat.{min}
use native.Mathlib.Omega.{arith}
use Rattle.common.specs.Numbers.{number, told_number}
use Rattle.common.proofs.Numbers.{number_above, lower_found, lower_other, lower_both}
use Rattle.common.proofs.refusals.lower_of.Goals.{in-Ok, in-Err-found+then-number, in-Err-found+else-number}
use Rattle.common.proofs.refusals.lower_of.Goals as goal

pub returns-in_default-clause-number : goal.returns-in_default-clause-number
returns-in_default-clause-number g c = rw c.in_default.is (sym (lower_found (told_number c.args.found)))

pub returns-clause-number : goal.returns-clause-number
returns-clause-number g c =
    let second = number c.in-Err.second in
    rw c.in-Err.is
    (elim c.match-found.branch [
      | in-Ok w ↦ rw (w.result-is, w.in-Ok.is) (sym (lower_other second))
      | in-Err-found+then-number w ↦
          let first = number w.in-Err-found.first in
          let least : second ≡ min first second = omega arith in
          rw (w.result-is, w.in-Err-found.is, lower_both first second (number_above w.in-Err-found.first) (number_above c.in-Err.second)) least
      | in-Err-found+else-number w ↦
          let first = number w.in-Err-found.first in
          let least : first ≡ min first second = omega arith in
          rw (w.result-is, w.in-Err-found.is, lower_both first second (number_above w.in-Err-found.first) (number_above c.in-Err.second)) least
    ])
