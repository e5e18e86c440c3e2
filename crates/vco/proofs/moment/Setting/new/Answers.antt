use Rattle.vco.proofs.PulseLaws.{clamp_width}
use Rattle.vco.proofs.moment.Setting.new.Goals as goal

pub invariant_of-result : goal.invariant_of-result
invariant_of-result c = record { away = simp c.width.ensures (clamp_width _) }
