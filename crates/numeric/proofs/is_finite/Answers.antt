-- is_finite: x - x is 0 exactly where x is finite.
use Rattle.numeric.proofs.BasicLaws.{finite_test}
use Rattle.numeric.proofs.is_finite.Goals as goal

pub returns : goal.returns
returns c = finite_test c.args.x
