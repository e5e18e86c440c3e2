use mathlib.Core.Path.{ap, ◌∙◌}
use Rattle.boundary.proofs.Flat.{kept_stop}
use Rattle.boundary.proofs.Lent.{lent, unlent, kept_changing}
use Rattle.boundary.specs.Flat.{kept_sized}
use Rattle.exports_lfo.specs.State.{n_floats, n_wholes, state_of, floats_of, wholes_of}
use Rattle.lfo.specs.Lfo.{lfo_set_sample_rate_of}
use Rattle.exports_lfo.specs.Calls.{lfo_set_sample_rate_at}
use Rattle.exports_lfo.proofs.gruttisol_lfo_set_sample_rate.Goals as goal

pub returns-in-Ok : goal.returns-in-Ok
unfolding lfo_set_sample_rate_at
returns-in-Ok c = let f = c.args.floats.now in
    let w = c.args.wholes.now in
    c.keep.ensures
    ∙ ap (λ k. kept_sized n_floats n_wholes k f w)
    (kept_changing floats_of wholes_of f w c.in-Ok.lfo _ _ (c.set_sample_rate.ensures
    ∙ ap (λ s. lfo_set_sample_rate_of s (record { 0 = c.args.sample_rate })) (lent n_floats n_wholes state_of f w _ c.in-Ok.ensures)))

pub returns-in-Err : goal.returns-in-Err
unfolding lfo_set_sample_rate_at
returns-in-Err c =
    kept_stop _ _ _ _ c.in-Err.refused _ (unlent n_floats n_wholes state_of c.args.floats.now c.args.wholes.now _ c.in-Err.ensures) c.number.ensures _
