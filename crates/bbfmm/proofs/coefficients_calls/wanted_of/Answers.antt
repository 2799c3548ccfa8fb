-- `bbfmm::coefficients_calls::wanted_of` meets its contract, by its test. Assumes nothing.
use Rattle.bbfmm.proofs.coefficients_calls.wanted_of.Goals as goal

pub returns-then-with_gradients : goal.returns-then-with_gradients
returns-then-with_gradients c = rw c.if-with_gradients.true

pub returns : goal.returns
returns c = rw c.if-with_gradients.false
