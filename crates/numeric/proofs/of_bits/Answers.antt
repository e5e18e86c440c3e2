-- of_bits: up to infinity the pattern is no NaN's, beyond it is one.
use Rattle.std.proofs.Common.{refl}
use lib.Ieee.{div, of_bits}
use Rattle.numeric.proofs.BasicLaws.{nan_bits_lem, quiet_bits}
use Rattle.numeric.proofs.of_bits.Goals as goal

pub float_from_bits-result : goal.float_from_bits-result
float_from_bits-result c = quiet_bits c.args.b c.if-b-le9218868437227405312.true

pub returns-then-b-le9218868437227405312 : goal.returns-then-b-le9218868437227405312
returns-then-b-le9218868437227405312 c = refl

pub returns-else-b-le9218868437227405312 : goal.returns-else-b-le9218868437227405312
unfolding div of_bits
returns-else-b-le9218868437227405312 c = nan_bits_lem c.args.b c.if-b-le9218868437227405312.false
