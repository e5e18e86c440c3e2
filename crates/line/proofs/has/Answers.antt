-- `line::has` meets its contract. Assumes nothing.
use mathlib.Core.Path.{◌∙◌}
use Rattle.line.proofs.Laws.{has_any}
use Rattle.line.proofs.has.Goals as goal

pub returns : goal.returns
returns c = c.contains.ensures.value ∙ has_any _ _
