-- `score::take_head` meets its contract, line by line. Assumes nothing.
use mathlib.Core.Path.{◌∙◌}
use Rattle.std.proofs.lemmas.Result.{err_from_is_err_and}
use Rattle.score.specs.Score.{head_of}
use Rattle.score.proofs.take_head.Goals as goal

pub returns-in_err-hz : goal.returns-in_err-hz
unfolding head_of
returns-in_err-hz c = let p = err_from_is_err_and c.from_residual.result c.from_residual.ensures.1 in rw (p.1, p.2) (λ k. c.in_err-hz.ensures _)

pub returns-in_err-gate : goal.returns-in_err-gate
unfolding head_of
returns-in_err-gate c = let p = err_from_is_err_and c.from_residual-in_err-gate.result c.from_residual-in_err-gate.ensures.1 in
    rw (p.1, p.2) (λ k. c.in_ok-hz.ensures _ ∙ c.in_err-gate.ensures _)

pub returns-in_err-frames : goal.returns-in_err-frames
unfolding head_of
returns-in_err-frames c = let p = err_from_is_err_and c.from_residual-in_err-frames.result c.from_residual-in_err-frames.ensures.1 in
    rw (p.1, p.2) (λ k. c.in_ok-hz.ensures _ ∙ c.in_ok-gate.ensures _ ∙ c.in_err-frames.ensures _)

pub returns : goal.returns
unfolding head_of
returns c = λ k. c.in_ok-hz.ensures _ ∙ c.in_ok-gate.ensures _ ∙ c.in_ok-frames.ensures _
