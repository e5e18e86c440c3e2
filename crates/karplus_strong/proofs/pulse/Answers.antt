use Rattle.std.proofs.Common.{le-ltb, lt-ltb}
use Rattle.karplus_strong.specs.Line.{impulse_of, pulse_of}
use Rattle.karplus_strong.proofs.pulse.Goals as goal

pub returns-then-i-n : goal.returns-then-i-n
unfolding pulse_of impulse_of
returns-then-i-n c = simp (c.bipolar-noise.ensures, lt-ltb _ _ c.if-i-n.true)

pub returns-else-i-n : goal.returns-else-i-n
unfolding pulse_of impulse_of
returns-else-i-n c = simp (c.bipolar-noise.ensures, le-ltb _ _ c.if-i-n.false)
