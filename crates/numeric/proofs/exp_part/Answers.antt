-- exp_part: what six ensures of the even powers and of the odd ones.
use Rattle.numeric.specs.Power.{exp_part}
use Rattle.numeric.proofs.exp_part.Goals as goal

pub returns : goal.returns
unfolding exp_part
returns c = simp (c.six-2.ensures, c.six.ensures)
