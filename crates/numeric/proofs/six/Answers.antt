-- six: the same operations in the same order.
use Rattle.std.proofs.Common.{refl}
use Rattle.numeric.specs.Power.{six_of}
use Rattle.numeric.proofs.six.Goals as goal

pub returns : goal.returns
unfolding six_of
returns c = refl
