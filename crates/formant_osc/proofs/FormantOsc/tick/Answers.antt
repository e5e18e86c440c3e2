use mathlib.Core.Path.{refl, ◌∙◌}
use Rattle.answer.specs.declared.Answer.TheVariants as answer
use Rattle.common.proofs.RefusalLaws.{passed, stopped}
use Rattle.common.specs.Refusal.{refused_number}
use Rattle.formant_osc.specs.FormantOsc.{formant_osc_tick_of}
use Rattle.formant_osc.proofs.FormantOsc.tick.Goals as goal

pub returns-in-Ok : goal.returns-in-Ok
unfolding formant_osc_tick_of refused_number
returns-in-Ok c = c.sound.ensures ∙ passed _ c.in-Ok.ensures _ _

pub returns-in-Err : goal.returns-in-Err
unfolding formant_osc_tick_of refused_number
returns-in-Err c = c.refused.ensures ∙ stopped c.in-Err.refused _ _ c.in-Err.ensures refl _ (λ k. record { answer = answer.Refused k; state = c.args.self })
