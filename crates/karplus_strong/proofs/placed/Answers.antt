use Rattle.std.proofs.Common.{le-ltb, lt-ltb}
use Rattle.karplus_strong.specs.KarplusStrong.{place_of}
use Rattle.karplus_strong.proofs.placed.Goals as goal

pub returns-then-pos-len : goal.returns-then-pos-len
unfolding place_of
returns-then-pos-len c = simp (lt-ltb _ _ c.if-pos-len.true)

pub returns-else-pos-len : goal.returns-else-pos-len
unfolding place_of
returns-else-pos-len c = simp (le-ltb _ _ c.if-pos-len.false)
