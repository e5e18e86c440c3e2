use Rattle.karplus_strong.specs.KarplusStrong.{finite_or}
use Rattle.karplus_strong.proofs.finite_or.Goals as goal

pub returns-then-is_finite : goal.returns-then-is_finite
unfolding finite_or
returns-then-is_finite c = simp (c.if-is_finite.true, ← c.is_finite.ensures)

pub returns-else-is_finite : goal.returns-else-is_finite
unfolding finite_or
returns-else-is_finite c = simp (c.if-is_finite.false, ← c.is_finite.ensures)
