-- rest: the same operations in the same order.
use Rattle.std.proofs.Common.{refl}
use Rattle.numeric.specs.Trig.{rest_of}
use Rattle.numeric.proofs.rest.Goals as goal

pub returns : goal.returns
unfolding rest_of
returns c = refl
