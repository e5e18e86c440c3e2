use Rattle.std.proofs.Common.{ap, le_of_lt, le→leb}
use lib.Ieee.{Float, binary64, in_float, sub}
use Rattle.laws.specs.Float.{one}
use Rattle.numeric.proofs.DrawLaws.{twice_once}
use Rattle.numeric.specs.Draw.{bipolar_of}
use Rattle.noise_generator.proofs.bipolar.Goals as goal

pub int_to_float-result : goal.int_to_float-result
unfolding in_float
int_to_float-result c = le→leb _ 9007199254740992 (le_of_lt c.requires)

pub returns : goal.returns
unfolding bipolar_of
returns c = ap (λ (x : Float). sub binary64 x one) (twice_once c.args.draw c.requires)
