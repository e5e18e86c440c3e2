-- `line::number_of` meets its contract. Assumes nothing.
use mathlib.Core.Path.{sym, ◌∙◌}
use Rattle.line.specs.Number.{number_of}
use Rattle.line.proofs.number_of.Goals as goal

pub returns-then-same : goal.returns-then-same
unfolding number_of
returns-then-same c = simp (sym c.same.ensures ∙ c.if-same.true)

pub returns-else-same : goal.returns-else-same
unfolding number_of
returns-else-same c = simp (sym c.same.ensures ∙ c.if-same.false, c.signed_of.ensures)
