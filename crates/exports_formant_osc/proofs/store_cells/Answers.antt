use Rattle.std.proofs.Common.{arith}
use Rattle.exports_formant_osc.proofs.Stores.{part_written}
use Rattle.exports_formant_osc.proofs.store_cells.Goals as goal

pub returns : goal.returns
returns c = let a = c.args in part_written a.floats.now _ a.cells.now a.at _ c.requires (omega arith) c.copy_from_slice.ensures.after
