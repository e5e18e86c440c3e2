-- Kept: by these the edit one_sample is refused at an equation; without them where a search ends.
use Rattle.lfo.specs.Waves.{sin_wave}
use Rattle.lfo.proofs.sin.Goals as goal

pub returns-then-want : goal.returns-then-want
unfolding sin_wave
returns-then-want c = simp c.if-want.true

pub returns-else-want : goal.returns-else-want
unfolding sin_wave
returns-else-want c = simp c.if-want.false
