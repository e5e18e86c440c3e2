use Rattle.laws.proofs.Tests.{of_true}
use Rattle.wavetable.proofs.Fractions.{fraction_is}
use Rattle.wavetable.proofs.fraction.Goals as goal

pub returns-then-pos-2 : goal.returns-then-pos-2
returns-then-pos-2 c = fraction_is _ _ _ (of_true _ c.well_formed.0.1) c.requires c.real.ensures
    c.if-pos.true c.if-pos-2.true
