-- A call is taken or refused: what holds of both holds of the call.
use Prim.Native.Nat.{ℕ}
use Rattle.answer.proofs.Calls.{made_cases}
use Rattle.answer.specs.Calls.{made_unless}
use Rattle.answer.specs.declared.Answer.TheVariants as answer
use Rattle.answer.specs.declared.Ticked.{Ticked}
use Rattle.formant_osc.specs.FormantOsc.{formant_osc_refusal_of, formant_osc_sound_of, formant_osc_tick_of}
use Rattle.formant_osc.specs.declared.FormantOscControls.{FormantOscControls}
use Rattle.formant_osc.specs.declared.FormantOsc.{FormantOsc}
use Rattle.laws.proofs.Tests.{unless_refused}

pub tick_either : (P : Ticked FormantOsc → Type 0) (s : FormantOsc) (c : FormantOscControls) → P (formant_osc_sound_of s c)
    → ((n : ℕ) → P (record { answer = answer.Refused n; state = s })) → P (formant_osc_tick_of s c)
unfolding formant_osc_tick_of
tick_either P s c h k = unless_refused P (formant_osc_refusal_of s) _ _ (λ e. h) (k (formant_osc_refusal_of s))

pub made_either : (P : FormantOsc → Type 0) (n : ℕ) (old new : FormantOsc) → P old → P new → P (made_unless n old new).state
made_either P n old new h k = made_cases (λ m. P m.state) n old new (λ e. k) h
