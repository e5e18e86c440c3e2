-- is_near: each branch is a case of is_near.
use Rattle.numeric.specs.Trig.{is_near}
use Rattle.numeric.proofs.is_near.Goals as goal

pub returns-then-x : goal.returns-then-x
unfolding is_near
returns-then-x c = simp c.if-x.true

pub returns-else-x : goal.returns-else-x
unfolding is_near
returns-else-x c = simp c.if-x.false
