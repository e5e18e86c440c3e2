use Rattle.lfo.specs.Small.{is_small}
use Rattle.lfo.proofs.is_small.Goals as goal

pub returns-then-depth : goal.returns-then-depth
unfolding is_small
returns-then-depth c = simp c.if-depth.true

pub returns-else-depth : goal.returns-else-depth
unfolding is_small
returns-else-depth c = simp c.if-depth.false
