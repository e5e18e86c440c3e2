-- `line::until` meets its contract. Assumes nothing.
use mathlib.Core.Path.{sym, ap, ◌∙◌}
use lib.ListN.{length}
use Rattle.line.proofs.Laws.{until_part}
use Rattle.line.proofs.until.Goals as goal

pub slice_bounds-result-end : goal.slice_bounds-result-end
slice_bounds-result-end c = c.count_until-n.ensures ∙ ap length (sym (until_part _ _ _ c.count_until-n.ensures))

pub returns : goal.returns
returns c = until_part _ _ _ c.count_until-n.ensures
