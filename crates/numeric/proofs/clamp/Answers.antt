-- clamp: each branch is a case of clamp_of.
use Rattle.numeric.specs.Basic.{clamp_of}
use Rattle.numeric.proofs.clamp.Goals as goal

pub returns-then-x-lo : goal.returns-then-x-lo
unfolding clamp_of
returns-then-x-lo c = simp c.if-x-lo.true

pub returns-then-x-hi : goal.returns-then-x-hi
unfolding clamp_of
returns-then-x-hi c = simp (c.if-x-lo.false, c.if-x-hi.true)

pub returns-else-x-hi : goal.returns-else-x-hi
unfolding clamp_of
returns-else-x-hi c = simp (c.if-x-lo.false, c.if-x-hi.false)
