-- `mending::put_records` meets its contract. The loop's invariant: both the output and the text have what belongs to the records before
-- this one. Assumes nothing.
use mathlib.Core.Path.{◌≡◌, refl, sym, ap, ◌∙◌}
use mathlib.Core.List.{List, [], ◌++◌, append-nil}
use Prim.Native.Nat.{ℕ, ◌+◌, ◌-◌, ◌*◌, ◌/◌, ◌%◌, ◌<◌}
use native.Mathlib.Omega.{arith}
use lib.ListN.{length, drop}
use Rattle.records.specs.Text.{short}
use Rattle.records.proofs.Answers.{Reached, begun, onward, reached_all}
use Rattle.mending_lines.specs.Records.{right, verdict, line}
use Rattle.mending.specs.Mending.{whole, mended_file, text}
use Rattle.mending.proofs.Calls.{file_done}
use Rattle.mending.proofs.Lines.{file_next, text_next, file_end, text_short, text_end}
use Rattle.mending.proofs.put_records.Goals as goal

pub loop-i-init : goal.loop-i-init
loop-i-init c = record { same = refl; mended = begun _ _ _; said = begun _ _ _ }

pub store_right-requires : goal.store_right-requires
store_right-requires c = (omega (arith, c.requires), omega arith, c.look-found.ensures)

pub put_verdict-requires : goal.put_verdict-requires
put_verdict-requires c = (omega arith, c.look-found.ensures)

pub loop-i-preserved : goal.loop-i-preserved
loop-i-preserved c =
    let l = c.loop-i in
    let i = c.args.input.now in
    let at = l.i * 8 in
    let on : at + 8 ≡ (l.i + 1) * 8 = omega arith in
    record {
      same = c.put_verdict.ensures.same ∙ l.invariant.same;
      mended =
          rw on at (onward (right (drop at i)) (file_next i l.i c.loop-i-test.true) l.invariant.mended c.store_right.ensures);
      said = onward (line (verdict (drop at i))) (text_next i l.i c.loop-i-test.true) l.invariant.said c.put_verdict.ensures.put;
    }

-- where the records end
module _ (l o : List ℕ) (i : ℕ) (h : length o ≡ 8 * whole l) (e : i ≡ length l / 8) where
  all_mended : {after : List ℕ} → Reached (mended_file l) 0 o after (i * 8) (mended_file (drop (i * 8) l)) → after ≡ mended_file l
  all_mended r = file_done l o h (reached_all (file_end l (i * 8) (omega arith) (omega arith)) r)

  tail : 0 < length l % 8 → text (drop (i * 8) l) ≡ short (length l % 8) ++ []
  tail k =
      let rest : length l - i * 8 ≡ length l % 8 = omega arith in
      text_short l (i * 8) (omega arith) (omega arith) ∙ ap short rest ∙ sym (append-nil (short (length l % 8)))

pub returns-then-tail-ne0-clause-mended : goal.returns-then-tail-ne0-clause-mended
returns-then-tail-ne0-clause-mended c =
    all_mended c.args.input.now c.args.output.now c.loop-i.i c.requires (omega arith) c.loop-i.invariant.mended

pub returns-then-tail-ne0-clause-put : goal.returns-then-tail-ne0-clause-put
returns-then-tail-ne0-clause-put c =
    let i = c.args.input.now in
    let rest = tail i c.args.output.now c.loop-i.i c.requires (omega arith) (omega arith) in
    reached_all refl (onward (short (length i % 8)) rest c.loop-i.invariant.said c.put_counted.ensures.put)

pub returns-else-tail-ne0-clause-mended : goal.returns-else-tail-ne0-clause-mended
returns-else-tail-ne0-clause-mended c =
    all_mended c.args.input.now c.args.output.now c.loop-i.i c.requires (omega arith) c.loop-i.invariant.mended

pub returns-else-tail-ne0-clause-put : goal.returns-else-tail-ne0-clause-put
returns-else-tail-ne0-clause-put c =
    reached_all (text_end c.args.input.now (c.loop-i.i * 8) (omega arith) (omega arith)) c.loop-i.invariant.said
