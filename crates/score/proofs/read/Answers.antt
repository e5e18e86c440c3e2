-- `score::read` meets its contract. Assumes nothing.
use mathlib.Core.Path.{sym, ◌∙◌}
use borrow.Author.Tests.{lt-ltb, le-ltb}
use Rattle.std.proofs.lemmas.Result.{err_from_is_err_and}
use Rattle.score.specs.Score.{inputs_of, lines_of, score_of}
use Rattle.score.proofs.Steps.{ended, more_left, nothing_left}
use Rattle.score.proofs.read.Goals as goal

pub returns-then-text-gt1024 : goal.returns-then-text-gt1024
unfolding score_of
returns-then-text-gt1024 c = simp (lt-ltb _ _ c.if-text-gt1024.true)

pub returns-in_err-osc : goal.returns-in_err-osc
unfolding score_of lines_of
returns-in_err-osc c = let p = err_from_is_err_and c.from_residual.result c.from_residual.ensures.1 in
    rw (p.1, p.2) (simp (le-ltb _ _ c.if-text-gt1024.false) (sym (c.in_err-osc.ensures _)))

pub returns-in_err-head : goal.returns-in_err-head
unfolding score_of lines_of
returns-in_err-head c = let p = err_from_is_err_and c.from_residual-in_err-head.result c.from_residual-in_err-head.ensures.1 in
    rw (p.1, p.2) (simp (le-ltb _ _ c.if-text-gt1024.false) (sym (c.in_ok-osc.ensures _ ∙ c.in_err-head.ensures _)))

pub returns-in_err-inputs : goal.returns-in_err-inputs
unfolding score_of lines_of inputs_of
returns-in_err-inputs c = let p = err_from_is_err_and c.from_residual-in_err-inputs.result c.from_residual-in_err-inputs.ensures.1 in
    rw (p.1, p.2) (simp (le-ltb _ _ c.if-text-gt1024.false) (sym (c.in_ok-osc.ensures _ ∙ c.in_ok-head.ensures _
    ∙ c.in_err-inputs.ensures (ended c.in_ok-head.head))))

pub returns-then-lines : goal.returns-then-lines
unfolding score_of lines_of inputs_of
returns-then-lines c =
    simp (le-ltb _ _ c.if-text-gt1024.false)
    (sym (c.in_ok-osc.ensures _ ∙ c.in_ok-head.ensures _ ∙ c.in_ok-inputs.ensures (ended c.in_ok-head.head)
    ∙ more_left c.take_inputs.new.lines _ c.if-lines.true))

pub returns : goal.returns
unfolding score_of lines_of inputs_of
returns c =
    simp (le-ltb _ _ c.if-text-gt1024.false)
    (sym (c.in_ok-osc.ensures _ ∙ c.in_ok-head.ensures _ ∙ c.in_ok-inputs.ensures (ended c.in_ok-head.head)
    ∙ nothing_left c.take_inputs.new.lines _ c.if-lines.false))
