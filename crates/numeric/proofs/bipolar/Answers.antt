-- bipolar: twice what draw ensures, less 1.
use Rattle.numeric.specs.Draw.{bipolar_of}
use Rattle.numeric.proofs.bipolar.Goals as goal

pub returns : goal.returns
unfolding bipolar_of
returns c = simp c.draw.ensures
