-- `ratios::limits::check_lengths` meets its contract: each return by the tests that led there. Assumes nothing.
use Rattle.ratios.proofs.Calls.{wrong_first, wrong_second, wrong_third, wrong_fourth, wrong_fifth, lengths_taken}
use Rattle.ratios.proofs.limits.check_lengths.Goals.{then-carbon_monoxide-nodes-via-then-carbon_monoxide-nodes}
use Rattle.ratios.proofs.limits.check_lengths.Goals.{then-carbon_monoxide-nodes-via-else-carbon_monoxide-nodes+then-nitrogen-nodes}
use Rattle.ratios.proofs.limits.check_lengths.Goals.{then-carbon_monoxide-nodes-via-else-carbon_monoxide-nodes+else-nitrogen-nodes+then-oxygen-nodes}
use Rattle.ratios.proofs.limits.check_lengths.Goals.{then-carbon_monoxide-nodes-via-else-carbon_monoxide-nodes+else-nitrogen-nodes+else-oxygen-nodes+then-answers-rows}
use Rattle.ratios.proofs.limits.check_lengths.Goals.{then-carbon_monoxide-nodes-via-else-carbon_monoxide-nodes+else-nitrogen-nodes+else-oxygen-nodes+else-answers-rows+then-ratios-rows}
use Rattle.ratios.proofs.limits.check_lengths.Goals as goal

pub returns-then-carbon_monoxide-nodes : goal.returns-then-carbon_monoxide-nodes
returns-then-carbon_monoxide-nodes c =
    rw (← c.nodes-nodes.ensures) (elim c.then-carbon_monoxide-nodes.branch [
      | then-carbon_monoxide-nodes-via-then-carbon_monoxide-nodes w ↦
          wrong_first _ _ _ _ _ _ _ w.if-carbon_monoxide-nodes.true
      | then-carbon_monoxide-nodes-via-else-carbon_monoxide-nodes+then-nitrogen-nodes w ↦
          wrong_second _ _ _ _ _ _ _ w.if-carbon_monoxide-nodes.false w.if-nitrogen-nodes.true
      | then-carbon_monoxide-nodes-via-else-carbon_monoxide-nodes+else-nitrogen-nodes+then-oxygen-nodes w ↦
          wrong_third _ _ _ _ _ _ _ w.if-carbon_monoxide-nodes.false w.if-nitrogen-nodes.false w.if-oxygen-nodes.true
      | then-carbon_monoxide-nodes-via-else-carbon_monoxide-nodes+else-nitrogen-nodes+else-oxygen-nodes+then-answers-rows w ↦
          wrong_fourth _ _ _ _ _ _ _ w.if-carbon_monoxide-nodes.false w.if-nitrogen-nodes.false w.if-oxygen-nodes.false w.if-answers-rows.true
      | then-carbon_monoxide-nodes-via-else-carbon_monoxide-nodes+else-nitrogen-nodes+else-oxygen-nodes+else-answers-rows+then-ratios-rows w ↦
          wrong_fifth _ _ _ _ _ _ _ w.if-carbon_monoxide-nodes.false w.if-nitrogen-nodes.false w.if-oxygen-nodes.false w.if-answers-rows.false w.if-ratios-rows.true
    ])

pub returns : goal.returns
returns c =
    rw (← c.nodes-nodes.ensures) (lengths_taken _ _ _ _ _ _ _
    c.if-carbon_monoxide-nodes.false
    c.if-nitrogen-nodes.false
    c.if-oxygen-nodes.false
    c.if-answers-rows.false
    c.if-ratios-rows.false)
