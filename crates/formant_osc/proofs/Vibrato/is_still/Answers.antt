use lib.Ieee.{eq, ne}
use Rattle.formant_osc.proofs.Vibrato.is_still.Goals as goal

pub returns-then-self : goal.returns-then-self
unfolding eq ne
returns-then-self c = simp c.if-self.true
