-- `read_on`: what a read's answer means reaches no further than what was lent to it.
use native.Mathlib.Omega.{arith}
use Rattle.render.proofs.Taking.{step_reaches}
use Rattle.render.proofs.read_on.Goals as goal

pub returns : goal.returns
returns g c = step_reaches _ _ _ _ _ c.after_read.ensures (omega arith)
