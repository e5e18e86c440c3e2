use mathlib.Core.Path.{ap, ◌∙◌}
use Rattle.boundary.proofs.Flat.{kept_stop}
use Rattle.boundary.proofs.Lent.{lent, unlent, kept_changing}
use Rattle.boundary.specs.Flat.{kept_sized}
use Rattle.exports_formant_osc.specs.State.{n_floats, n_wholes, state_of, floats_of, wholes_of}
use Rattle.formant_osc.specs.FormantOsc.{formant_osc_set_sample_rate_of}
use Rattle.exports_formant_osc.specs.Calls.{formant_osc_set_sample_rate_at}
use Rattle.exports_formant_osc.proofs.gruttisol_formant_osc_set_sample_rate.Goals as goal

pub returns-in-Ok : goal.returns-in-Ok
unfolding formant_osc_set_sample_rate_at
returns-in-Ok c = let f = c.args.floats.now in
    let w = c.args.wholes.now in
    let state = lent n_floats n_wholes state_of f w _ c.in-Ok.ensures in
    let said = c.set_sample_rate.ensures ∙ ap (λ s. formant_osc_set_sample_rate_of s (record { 0 = c.args.sample_rate })) state in
    c.keep.ensures ∙ ap (λ k. kept_sized n_floats n_wholes k f w) (kept_changing floats_of wholes_of f w c.in-Ok.formant_osc _ _ said)

pub returns-in-Err : goal.returns-in-Err
unfolding formant_osc_set_sample_rate_at
returns-in-Err c =
    kept_stop _ _ _ _ c.in-Err.refused _ (unlent n_floats n_wholes state_of c.args.floats.now c.args.wholes.now _ c.in-Err.ensures) c.number.ensures _
