use Rattle.common.proofs.PhaseLaws.{restart_in}
use Rattle.vco.proofs.StateLaws.{crosses_is}
use Rattle.vco.proofs.moment.Moment.new.Goals as goal

pub invariant_of-result : goal.invariant_of-result
invariant_of-result c = record { in_turn = rw c.restart.ensures (restart_in _ _ c.requires); synced = simp (c.restart.ensures, c.is_some.ensures, crosses_is) }
