-- kernel_sin: what pairs ensures, times z and r, off r.
use Rattle.numeric.specs.Trig.{kernel_sin}
use Rattle.numeric.proofs.kernel_sin.Goals as goal

pub returns : goal.returns
unfolding kernel_sin
returns c = simp c.pairs.ensures
