use Rattle.exports_formant_osc.specs.State.{state_of}
use Rattle.exports_formant_osc.proofs.CellsLayout.state.Goals as goal

pub returns : goal.returns
unfolding state_of
returns c = simp (c.load_cells-2.ensures, c.load_cells.ensures)
