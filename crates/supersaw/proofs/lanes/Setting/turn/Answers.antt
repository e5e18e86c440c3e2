use mathlib.Core.Path.{sym, ◌∙◌}
use Rattle.supersaw.proofs.LaneLaws.{quiet_ramped}
use Rattle.supersaw.proofs.lanes.Setting.turn.Goals as goal

pub returns-then-quiet : goal.returns-then-quiet
returns-then-quiet c = c.ramped.ensures ∙ quiet_ramped _ _ _ c.args.self.now.forward (sym c.quiet.ensures ∙ c.if-quiet.true) _ _
