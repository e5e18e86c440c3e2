use native.Mathlib.Omega.{arith}
use lib.ListN.{length-set}
use Rattle.exports_supersaw.specs.State.{samples_of}
use Rattle.laws.proofs.Slices.{stored}
use Rattle.exports_supersaw.proofs.CellsLayout.put.Goals as goal

pub bounds-samples-1 : goal.bounds-samples-1
bounds-samples-1 c = simp length-set (omega arith)

pub returns : goal.returns
unfolding samples_of
returns c = stored c.args.samples.now (samples_of c.args.v) c.requires
