use mathlib.Core.Path.{refl, sym, ◌∙◌}
use Rattle.answer.specs.declared.Answer.TheVariants as answer
use Rattle.common.proofs.RefusalLaws.{passed, stopped}
use Rattle.common.specs.Refusal.{refused_number}
use Rattle.lfo.specs.Lfo.{lfo_tick_of}
use Rattle.lfo.proofs.Lfo.tick.Goals as goal

pub sound-requires : goal.sound-requires
unfolding refused_number
sound-requires c = sym c.in-Ok.ensures

pub returns-in-Ok : goal.returns-in-Ok
unfolding lfo_tick_of refused_number
returns-in-Ok c = c.sound.ensures ∙ passed _ c.in-Ok.ensures _ _

pub returns-in-Err : goal.returns-in-Err
unfolding lfo_tick_of refused_number
returns-in-Err c = c.refused.ensures ∙ stopped c.in-Err.refused _ _ c.in-Err.ensures refl _ (λ k. record { answer = answer.Refused k; state = c.args.self })
