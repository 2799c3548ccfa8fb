-- `mending_records::store_right` meets its contract: eight zeros, or the record's first four bytes and those of the lookup, which fit a
-- byte. Assumes nothing.
use mathlib.Core.Path.{sym, ap, ◌∙◌}
use mathlib.Core.List.{[], ◌∷◌}
use Prim.Native.Nat.{◌+◌}
use lib.ListN.{get_or, drop}
use Rattle.common.specs.Numbers.{told}
use Rattle.mending_lines.proofs.Bytes.{found_bytes}
use Rattle.mending_lines.proofs.Stored.{right_refused, right_taken, right_stored}
use Rattle.mending_records.proofs.store_right.Goals as goal

pub overflow_cast-known : goal.overflow_cast-known
overflow_cast-known c =
    let known = sym (ap told c.in-Ok.is) ∙ c.requires.2 in
    record { fits = (found_bytes (drop c.args.at c.args.input.now) _ _ (sym known)).0 }

pub overflow_cast-known-in-Ok : goal.overflow_cast-known-in-Ok
overflow_cast-known-in-Ok c =
    let known = sym (ap told c.in-Ok.is) ∙ c.requires.2 in
    record { fits = (found_bytes (drop c.args.at c.args.input.now) _ _ (sym known)).1 }

pub returns-in-Err : goal.returns-in-Err
returns-in-Err c =
    let known = sym (ap told c.in-Err.is) ∙ c.requires.2 in
    right_stored c.args.input.now c.args.at (0 ∷ 0 ∷ 0 ∷ 0 ∷ []) (0 ∷ 0 ∷ 0 ∷ 0 ∷ []) c.args.output.now
    (right_refused c.args.input.now c.args.at _ (sym known)) c.store_four.ensures c.store_four-in-Err.ensures

pub returns-in-Ok : goal.returns-in-Ok
returns-in-Ok c =
    let k = c.in-Ok.known in
    let i = c.args.input.now in
    let at = c.args.at in
    let known = sym (ap told c.in-Ok.is) ∙ c.requires.2 in
    right_stored i at (get_or i at 0 ∷ get_or i (at + 1) 0 ∷ get_or i (at + 2) 0 ∷ get_or i (at + 3) 0 ∷ [])
    (k.case ∷ k.reference ∷ 0 ∷ 0 ∷ []) c.args.output.now
    (right_taken i at _ k (sym known)) c.store_four-in-Ok.ensures c.store_four-in-Ok-2.ensures
