-- bits: `x != x` holds of the NaN alone, so `to_bits` is asked of a number.
use Rattle.std.proofs.Common.{T, sym, refl, ap, ◌∙◌, subst}
use lib.Ieee.{binary64, is_nan, to_bits}
use lib.Ieee.Compare.{differs_from_itself}
use Rattle.laws.proofs.Order.{nan_test}
use Rattle.laws.proofs.Tests.{of_false}
use Rattle.numeric.proofs.bits.Goals as goal

pub float_to_bits-result : goal.float_to_bits-result
float_to_bits-result c = of_false (is_nan c.args.x) (sym (nan_test c.args.x) ∙ c.if-x.false)

pub returns-then-x : goal.returns-then-x
unfolding to_bits
returns-then-x c = sym (ap (to_bits binary64) (differs_from_itself c.args.x (subst T (sym c.if-x.true) tt)))

pub returns-else-x : goal.returns-else-x
returns-else-x c = refl
