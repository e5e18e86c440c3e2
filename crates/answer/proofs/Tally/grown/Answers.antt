use mathlib.Core.Path.{refl}
use Rattle.answer.specs.Block.{grown_by}
use Rattle.answer.proofs.Tally.grown.Goals as goal

pub returns : goal.returns
unfolding grown_by
returns c = refl
