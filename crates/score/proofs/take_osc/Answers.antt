-- `score::take_osc` meets its contract. Assumes nothing.
use Rattle.score.proofs.Steps.{stopped, osc_taken, osc_other}
use Rattle.score.proofs.take_osc.Goals as goal

pub returns-in_err-value : goal.returns-in_err-value
returns-in_err-value c = rw (stopped _ c.from_residual.ensures.1) (osc_other c.in_err-value.ensures)

pub returns : goal.returns
returns c = osc_taken c.in_ok-value.ensures c.osc_of.ensures
