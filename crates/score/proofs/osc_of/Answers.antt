-- `score::osc_of` meets its contract. Assumes nothing.
use mathlib.Core.Path.{ap, ◌∙◌}
use Rattle.std.specs.Prelude.{Option, ok_or}
use Rattle.score.specs.declared.Osc.{Osc}
use Rattle.score.specs.declared.Refusal.TheVariants.{WrongLine}
use Rattle.score.proofs.Steps.{osc_found}
use Rattle.score.proofs.osc_of.Goals as goal

pub returns : goal.returns
returns c = c.ok_or.ensures.value ∙ ap (λ (o : Option Osc). ok_or o WrongLine) c.named.ensures ∙ osc_found _
