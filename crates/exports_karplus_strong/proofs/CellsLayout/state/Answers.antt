use mathlib.Core.Path.{◌∙◌}
use Rattle.boundary.proofs.Laws.{edge_part}
use Rattle.exports_karplus_strong.specs.State.{state_of}
use Rattle.exports_karplus_strong.proofs.CellsLayout.state.Goals as goal

pub returns : goal.returns
unfolding state_of
returns c = simp (c.edge_of.ensures ∙ edge_part c.args.floats.now 4)
