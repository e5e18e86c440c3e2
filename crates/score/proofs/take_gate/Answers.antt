-- `score::take_gate` meets its contract: the line here, where it is the gate's. Assumes nothing.
use Rattle.std.proofs.lemmas.Result.{err_from_is_err_and}
use Rattle.score.specs.Score.{gate}
use Rattle.score.proofs.take_gate.Goals as goal

pub returns-in_err-issue : goal.returns-in_err-issue
unfolding gate
returns-in_err-issue c = let p = err_from_is_err_and c.from_residual.result c.from_residual.ensures.1 in
    rw (p.1, p.2) (λ k. simp (← c.is_line.ensures, c.if-is_line.true) (c.in_err-issue.ensures _))

pub returns-in_ok-issue : goal.returns-in_ok-issue
unfolding gate
returns-in_ok-issue c = λ k. simp (← c.is_line.ensures, c.if-is_line.true) (c.in_ok-issue.ensures _)

pub returns-else-is_line : goal.returns-else-is_line
unfolding gate
returns-else-is_line c = λ k. simp (← c.is_line.ensures, c.if-is_line.false)
