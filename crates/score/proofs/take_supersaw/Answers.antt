-- `score::take_supersaw` meets its contract, line by line. Assumes nothing.
use mathlib.Core.Path.{◌∙◌}
use Rattle.score.proofs.Steps.{stopped}
use Rattle.score.proofs.take_supersaw.Goals as goal

pub returns-in_err-take_control-3 : goal.returns-in_err-take_control-3
returns-in_err-take_control-3 c = rw (stopped _ c.from_residual-in_err-take_control-3.ensures.1)
    (λ k. c.in_ok-take_control.ensures _ ∙ c.in_ok-take_control-2.ensures _ ∙ c.in_err-take_control-3.ensures _)

pub returns : goal.returns
returns c = λ k. c.in_ok-take_control.ensures _ ∙ c.in_ok-take_control-2.ensures _ ∙ c.in_ok-take_control-3.ensures _
