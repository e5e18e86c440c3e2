-- `line::past` meets its contract. Assumes nothing.
use mathlib.Core.Path.{◌∙◌}
use native.Mathlib.Omega.{arith}
use Rattle.line.proofs.Laws.{past_part, until_short}
use Rattle.line.proofs.past.Goals as goal

pub overflow_add-count_until : goal.overflow_add-count_until
overflow_add-count_until c = omega (arith, c.count_until.ensures, until_short c.args.byte c.args.t.now)

pub returns : goal.returns
returns c = c.from.ensures ∙ past_part _ _ _ c.count_until.ensures
