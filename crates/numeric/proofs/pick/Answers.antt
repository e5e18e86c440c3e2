-- pick: each branch is a case of its contract.
use Rattle.numeric.proofs.pick.Goals as goal

pub returns-then-r-x : goal.returns-then-r-x
returns-then-r-x c = simp c.if-r-x.true

pub returns-then-r-x-2 : goal.returns-then-r-x-2
returns-then-r-x-2 c = simp (c.if-r-x-2.true, c.if-r-x.false)

pub returns-else-r-x-2 : goal.returns-else-r-x-2
returns-else-r-x-2 c = simp (c.if-r-x-2.false, c.if-r-x.false)
