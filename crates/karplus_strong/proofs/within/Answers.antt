use Rattle.karplus_strong.proofs.Finite.{within_is}
use Rattle.karplus_strong.proofs.within.Goals as goal

pub returns-then-x-hi : goal.returns-then-x-hi
returns-then-x-hi c = within_is _ _ _ _ c.requires.0 c.requires.1 c.if-x-lo.true c.if-x-hi.true
