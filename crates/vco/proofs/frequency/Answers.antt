use Rattle.vco.specs.Vco.{frequency_of}
use Rattle.vco.proofs.frequency.Goals as goal

pub returns : goal.returns
unfolding frequency_of
returns c = simp (c.exp2.ensures, c.voct_to_hz-base_freq.ensures)
