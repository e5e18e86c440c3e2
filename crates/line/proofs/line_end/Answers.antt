-- `line::line_end` meets its contract. Assumes nothing.
use mathlib.Core.Path.{ap, ◌∙◌}
use native.Mathlib.Omega.{arith}
use lib.ListN.{length, length-drop}
use Rattle.line.proofs.Laws.{past_short}
use Rattle.line.specs.Bytes.{past_of}
use Rattle.line.specs.Line.{after_line, next_of}
use Rattle.line.proofs.line_end.Goals as goal

pub overflow_sub-result : goal.overflow_sub-result
overflow_sub-result c = omega (
  arith,
  ap length c.past.ensures,
  past_short 10 c.from.result.now,
  ap length c.from.ensures,
  length-drop c.args.at c.args.text.now,
)

pub returns : goal.returns
unfolding next_of after_line
returns c = simp (c.past.ensures ∙ ap (past_of 10) c.from.ensures)
