use Rattle.karplus_strong.proofs.Finite.{settled_test}
use Rattle.karplus_strong.proofs.is_settled.Goals as goal

pub returns : goal.returns
returns c = settled_test _
