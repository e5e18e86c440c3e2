use Rattle.answer.proofs.Calls.{change_done, change_refused}
use Rattle.std.proofs.lemmas.Result.{err_from_is_err_and}
use Rattle.formant_osc.specs.FormantOsc.{restarted, formant_osc_reset_of}
use Rattle.formant_osc.proofs.FormantOsc.reset.Goals as goal

pub returns-in_err-refusal : goal.returns-in_err-refusal
unfolding formant_osc_reset_of
returns-in_err-refusal c =
    let p = err_from_is_err_and c.from_residual.result c.from_residual.ensures.1 in
    rw (p.1, p.2) (change_refused c.refusal.result c.in_err-refusal.field-0.0 _ _ _ c.refusal.ensures c.in_err-refusal.was)

pub returns : goal.returns
unfolding formant_osc_reset_of restarted
returns c = change_done c.refusal.result _ _ _ _ c.refusal.ensures c.in_ok-refusal.was
