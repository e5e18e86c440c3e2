use Rattle.std.proofs.Common.{arith}
use Rattle.exports_formant_osc.proofs.Stores.{part_read}
use Rattle.exports_formant_osc.proofs.load_cells.Goals as goal

pub returns : goal.returns
returns c = part_read _ _ _ _ _ c.requires (omega arith) c.copy_from_slice.ensures.after
