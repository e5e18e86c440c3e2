use mathlib.Core.Path.{refl}
use lib.Ieee.{binary64}
use lib.Ieee.Fits.{add-fits}
use Rattle.common.proofs.PhaseLaws.{wrap_in}
use Rattle.common.specs.Phase.{restart_of}
use Rattle.vco.specs.Shortcuts.{held_next}
use Rattle.vco.specs.Vco.{crosses_of}
use Rattle.vco.proofs.moment.Moment.next.Goals as goal

pub invariant_of-result : goal.invariant_of-result
unfolding crosses_of restart_of
invariant_of-result c = record { in_turn = rw c.wrap_phase.ensures (wrap_in _ (add-fits binary64 _ _)); synced = refl }

pub returns : goal.returns
unfolding held_next
returns c = simp (c.wrap_phase.ensures, ← c.args.self.synced)
