-- pairs: the same operations in the same order.
use Rattle.std.proofs.Common.{refl}
use Rattle.numeric.specs.Trig.{pairs_of}
use Rattle.numeric.proofs.pairs.Goals as goal

pub returns : goal.returns
unfolding pairs_of
returns c = refl
