use Rattle.lfo.specs.Lfo.{lfo_refusal_of}
use Rattle.lfo.proofs.Lfo.refusal.Goals as goal

pub returns : goal.returns
unfolding lfo_refusal_of
returns c = c.gated_refusal.ensures
