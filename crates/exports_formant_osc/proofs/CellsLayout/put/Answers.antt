use Rattle.exports_formant_osc.specs.State.{samples_of}
use Rattle.laws.proofs.Slices.{stored}
use Rattle.exports_formant_osc.proofs.CellsLayout.put.Goals as goal

pub returns : goal.returns
unfolding samples_of
returns c = stored c.args.samples.now (samples_of c.args.v) c.requires
