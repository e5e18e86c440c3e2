-- `score::take_vco` meets its contract, line by line. Assumes nothing.
use mathlib.Core.Path.{◌∙◌}
use Rattle.std.proofs.lemmas.Result.{err_from_is_err_and}
use Rattle.score.proofs.take_vco.Goals as goal

pub returns-in_err-take_control-3 : goal.returns-in_err-take_control-3
returns-in_err-take_control-3 c = let p = err_from_is_err_and c.from_residual-in_err-take_control-3.result c.from_residual-in_err-take_control-3.ensures.1 in
    rw (p.1, p.2) (λ k. c.in_ok-take_control.ensures _ ∙ c.in_ok-take_control-2.ensures _ ∙ c.in_err-take_control-3.ensures _)

pub returns-in_err-take_control-4 : goal.returns-in_err-take_control-4
returns-in_err-take_control-4 c = let p = err_from_is_err_and c.from_residual-in_err-take_control-4.result c.from_residual-in_err-take_control-4.ensures.1 in
    rw (p.1, p.2) (λ k. c.in_ok-take_control.ensures _ ∙ c.in_ok-take_control-2.ensures _ ∙ c.in_ok-take_control-3.ensures _
    ∙ c.in_err-take_control-4.ensures _)

pub returns-in_err-take_control-5 : goal.returns-in_err-take_control-5
returns-in_err-take_control-5 c = let p = err_from_is_err_and c.from_residual-in_err-take_control-5.result c.from_residual-in_err-take_control-5.ensures.1 in
    rw (p.1, p.2) (λ k. c.in_ok-take_control.ensures _ ∙ c.in_ok-take_control-2.ensures _ ∙ c.in_ok-take_control-3.ensures _ ∙ c.in_ok-take_control-4.ensures _
    ∙ c.in_err-take_control-5.ensures _)

pub returns : goal.returns
returns c = λ k. c.in_ok-take_control.ensures _ ∙ c.in_ok-take_control-2.ensures _ ∙ c.in_ok-take_control-3.ensures _ ∙ c.in_ok-take_control-4.ensures _
    ∙ c.in_ok-take_control-5.ensures _
