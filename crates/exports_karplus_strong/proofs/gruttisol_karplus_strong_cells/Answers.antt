use Rattle.exports_karplus_strong.specs.Calls.{karplus_strong_cells_at}
use Rattle.exports_karplus_strong.proofs.gruttisol_karplus_strong_cells.Goals as goal

pub returns : goal.returns
unfolding karplus_strong_cells_at
returns c = c.cells.ensures
