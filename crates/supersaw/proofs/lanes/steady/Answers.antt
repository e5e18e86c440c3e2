use Rattle.supersaw.proofs.StepLaws.{steady_above}
use Rattle.supersaw.specs.Shortcuts.{steady_of}
use Rattle.supersaw.proofs.lanes.steady.Goals as goal

pub returns-then-dt-t : goal.returns-then-dt-t
returns-then-dt-t c = steady_above _ _ c.well_formed.0.1.1.0.1 c.if-dt-t.true

pub returns-else-dt-t : goal.returns-else-dt-t
unfolding steady_of
returns-else-dt-t c = simp (c.well_formed.0.1.1.0.1, c.if-dt-t.false)
