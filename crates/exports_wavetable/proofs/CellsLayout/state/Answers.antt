use mathlib.Core.Path.{◌∙◌}
use Rattle.boundary.proofs.Laws.{edge_part}
use Rattle.exports_wavetable.specs.State.{state_of}
use Rattle.exports_wavetable.proofs.CellsLayout.state.Goals as goal

pub returns : goal.returns
unfolding state_of
returns c = simp (c.edge_of-edge.ensures ∙ edge_part c.args.floats.now 2)
