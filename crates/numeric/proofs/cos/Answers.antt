-- cos: near what kernel_cos ensures, else what far does.
use Rattle.numeric.specs.Trig.{cos_of}
use Rattle.numeric.proofs.cos.Goals as goal

pub returns-then-is_near : goal.returns-then-is_near
unfolding cos_of
returns-then-is_near c = simp (c.kernel_cos.ensures, c.if-is_near.true, ← c.is_near.ensures)

pub returns-else-is_near : goal.returns-else-is_near
unfolding cos_of
returns-else-is_near c = simp (c.far.ensures, c.if-is_near.false, ← c.is_near.ensures)
