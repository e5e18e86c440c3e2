-- `score::take_whole` meets its contract. Assumes nothing.
use Rattle.std.proofs.lemmas.Result.{err_from_is_err_and}
use Rattle.score.proofs.Steps.{whole_taken, whole_other}
use Rattle.score.proofs.take_whole.Goals as goal

pub returns-in_err-value : goal.returns-in_err-value
returns-in_err-value c = let p = err_from_is_err_and c.from_residual.result c.from_residual.ensures.1 in
    rw (p.1, p.2) (whole_other _ _ _ c.in_err-value.ensures)

pub returns : goal.returns
returns c = whole_taken _ _ _ _ c.in_ok-value.ensures c.number_of.ensures c.within.ensures
