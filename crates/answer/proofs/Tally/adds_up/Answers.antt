use mathlib.Core.Path.{refl}
use Rattle.answer.specs.Tally.{adds_up}
use Rattle.answer.proofs.Tally.adds_up.Goals as goal

pub returns : goal.returns
unfolding adds_up
returns c = refl
