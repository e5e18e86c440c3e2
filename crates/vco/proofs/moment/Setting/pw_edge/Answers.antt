use mathlib.Core.Path.{ap}
use Rattle.common.specs.Phase.{turns}
use Rattle.vco.proofs.PulseLaws.{pulse_edge}
use Rattle.vco.proofs.moment.Setting.pw_edge.Goals as goal

pub returns-then-x : goal.returns-then-x
returns-then-x c = ap turns (simp c.if-x.true at (pulse_edge c.args.now.phase.0 c.args.self.pw c.args.now.in_turn c.args.self.away))

pub returns-else-x : goal.returns-else-x
returns-else-x c = ap turns (simp c.if-x.false at (pulse_edge c.args.now.phase.0 c.args.self.pw c.args.now.in_turn c.args.self.away))
