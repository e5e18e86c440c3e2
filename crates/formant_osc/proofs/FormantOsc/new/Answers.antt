use Rattle.answer.proofs.Calls.{making_made}
use Rattle.common.proofs.PhaseLaws.{zero_in}
use Rattle.formant_osc.specs.FormantOsc.{new_formant_osc, formant_osc_refusal_of, formant_osc_new_of}
use Rattle.formant_osc.proofs.FormantOsc.new.Goals as goal

pub returns : goal.returns
unfolding formant_osc_new_of new_formant_osc formant_osc_refusal_of
returns c = simp (c.new.ensures, c.new-2.ensures, (simp zero_in at c.refusal.ensures)) (making_made _ _)
