use mathlib.Core.Path.{refl, ap, ◌∙◌}
use Rattle.answer.specs.declared.Answer.TheVariants as answer
use Rattle.common.proofs.RefusalLaws.{passed, stopped}
use Rattle.common.specs.Refusal.{refused_number}
use Rattle.wavetable.specs.Wavetable.{wavetable_sound_of, wavetable_tick_of}
use Rattle.wavetable.proofs.Wavetable.tick.Goals as goal

pub returns-in-Ok : goal.returns-in-Ok
unfolding wavetable_tick_of refused_number
returns-in-Ok c = let a = c.args in
    c.sound.ensures
    ∙ ap (wavetable_sound_of a.self a.c) (c.lent.ensures.value c.in-Ok.lent c.in-Ok.is)
    ∙ passed _ c.in-Ok.ensures.number _ _

pub returns-in-Err : goal.returns-in-Err
unfolding wavetable_tick_of refused_number
returns-in-Err c =
    c.refused.ensures
    ∙ stopped c.in-Err.refused _ _ c.in-Err.ensures.number refl _ (λ k. record { answer = answer.Refused k; state = c.args.self })
