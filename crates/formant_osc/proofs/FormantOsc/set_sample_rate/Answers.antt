use Rattle.answer.proofs.Calls.{change_done, change_refused}
use Rattle.std.proofs.lemmas.Result.{err_from_is_err_and}
use Rattle.formant_osc.specs.FormantOsc.{formant_osc_set_sample_rate_of}
use Rattle.formant_osc.proofs.FormantOsc.set_sample_rate.Goals as goal

pub returns-in_err-rate_refusal : goal.returns-in_err-rate_refusal
unfolding formant_osc_set_sample_rate_of
returns-in_err-rate_refusal c =
    let p = err_from_is_err_and c.from_residual.result c.from_residual.ensures.1 in
    rw (p.1, p.2) (change_refused c.rate_refusal.result c.in_err-rate_refusal.field-0.0 _ _ _ c.rate_refusal.ensures c.in_err-rate_refusal.was)

pub returns : goal.returns
unfolding formant_osc_set_sample_rate_of
returns c = change_done c.rate_refusal.result _ _ _ _ c.rate_refusal.ensures c.in_ok-rate_refusal.was
