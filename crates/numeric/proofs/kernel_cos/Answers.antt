-- kernel_cos: what pairs ensures, times z, off 1.
use Rattle.numeric.specs.Trig.{kernel_cos}
use Rattle.numeric.proofs.kernel_cos.Goals as goal

pub returns : goal.returns
unfolding kernel_cos
returns c = simp c.pairs.ensures
