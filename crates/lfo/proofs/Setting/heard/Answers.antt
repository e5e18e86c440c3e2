use mathlib.Core.Path.{sym, ◌∙◌}
use Rattle.answer.proofs.Laws.{mark_known}
use Rattle.lfo.proofs.Small.{outputs_finite}
use Rattle.lfo.proofs.Setting.heard.Goals as goal

pub returns-then-self : goal.returns-then-self
returns-then-self c = rw (← c.outputs-volts.ensures, ← c.is_finite-phases.ensures)
    (c.marked.ensures ∙ mark_known _ _ _ _ (rw c.outputs-volts.ensures (outputs_finite _ _ _ _ c.requires (sym c.args.self.told ∙ c.if-self.true))))

pub returns-else-self : goal.returns-else-self
returns-else-self c = rw (← c.outputs-volts.ensures, ← c.is_finite-phases.ensures) c.mark.ensures
