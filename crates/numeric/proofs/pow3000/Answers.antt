-- pow3000: 3000 at 1, else what exp2 ensures.
use Rattle.numeric.specs.Power.{pow3000_of}
use Rattle.numeric.proofs.pow3000.Goals as goal

pub returns-then-r : goal.returns-then-r
unfolding pow3000_of
returns-then-r c = simp c.if-r.true

pub returns-else-r : goal.returns-else-r
unfolding pow3000_of
returns-else-r c = simp (c.exp2.ensures, c.if-r.false)
