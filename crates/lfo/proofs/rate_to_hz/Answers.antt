use Rattle.lfo.specs.Waves.{rate_to_hz}
use Rattle.lfo.proofs.rate_to_hz.Goals as goal

pub returns : goal.returns
unfolding rate_to_hz
returns c = simp (c.pow3000.ensures, c.clamp.ensures)
