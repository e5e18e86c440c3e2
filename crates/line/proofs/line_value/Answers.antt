-- `line::line_value` meets its contract. Assumes nothing.
use mathlib.Core.Path.{ap, ◌∙◌}
use Rattle.line.specs.Bytes.{until_of, past_of}
use Rattle.line.specs.Line.{line_of, value_of}
use Rattle.line.proofs.line_value.Goals as goal

pub returns : goal.returns
unfolding value_of line_of
returns c = c.past.ensures ∙ ap (past_of 61) (c.until.ensures ∙ ap (until_of 10) c.from.ensures)
