-- `score::take_control` meets its contract. Assumes nothing.
use Rattle.std.proofs.lemmas.Result.{err_from_is_err_and}
use Rattle.score.proofs.Steps.{control_taken, control_other}
use Rattle.score.proofs.take_control.Goals as goal

pub returns-in_err-value : goal.returns-in_err-value
returns-in_err-value c = let p = err_from_is_err_and c.from_residual.result c.from_residual.ensures.1 in rw (p.1, p.2) (control_other _ c.in_err-value.ensures)

pub returns : goal.returns
returns c = control_taken _ _ c.in_ok-value.ensures c.number_of.ensures c.control_of.ensures
