use Rattle.std.proofs.Common.{arith}
use Rattle.noise_generator.proofs.CountLaws.{climbed_none, climbed_more, climbed_done}
use Rattle.noise_generator.proofs.climbed.Goals as goal

pub loop-init : goal.loop-init
loop-init c = (climbed_none 16 _, omega arith)

pub loop-preserved : goal.loop-preserved
loop-preserved c = let l = c.loop in (climbed_more 16 l.counter _ l.sum l.rest c.loop-test.true l.invariant.0, omega arith)

pub returns : goal.returns
returns c = let l = c.loop in climbed_done 16 l.counter _ l.sum l.rest (omega arith) l.invariant.0
