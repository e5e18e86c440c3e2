-- scale: a multiple of 2 ^ 52 is no NaN's pattern.
use Rattle.std.proofs.Common.{refl}
use Rattle.laws.proofs.Values.{no_nan_bits}
use Rattle.numeric.specs.Power.{scale_of}
use Rattle.numeric.proofs.scale.Goals as goal

pub float_from_bits-result : goal.float_from_bits-result
float_from_bits-result c = no_nan_bits _

pub returns : goal.returns
unfolding scale_of
returns c = refl
