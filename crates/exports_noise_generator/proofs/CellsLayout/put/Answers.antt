use Rattle.laws.proofs.Slices.{stored}
use Rattle.exports_noise_generator.specs.State.{samples_of}
use Rattle.exports_noise_generator.proofs.CellsLayout.put.Goals as goal

pub returns : goal.returns
unfolding samples_of
returns c = stored c.args.samples.now (samples_of c.args.v) c.requires
