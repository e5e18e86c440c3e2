use Rattle.std.proofs.Common.{◌∙◌}
use Rattle.boundary.proofs.Flat.{kept_stop}
use Rattle.boundary.proofs.Lent.{lent, unlent}
use Rattle.boundary.specs.Flat.{kept_result}
use Rattle.exports_noise_generator.specs.Calls.{noise_generator_set_sample_rate_at}
use Rattle.exports_noise_generator.specs.State.{n_floats, n_wholes, state_of}
use Rattle.exports_noise_generator.proofs.gruttisol_noise_generator_set_sample_rate.Goals as goal

pub returns-in-Ok : goal.returns-in-Ok
unfolding noise_generator_set_sample_rate_at kept_result
returns-in-Ok c = let a = c.args in
    c.keep.ensures ∙ simp (c.set_sample_rate-rated.ensures, lent n_floats n_wholes state_of a.floats.now a.wholes.now _ c.in-Ok.ensures)

pub returns-in-Err : goal.returns-in-Err
unfolding noise_generator_set_sample_rate_at
returns-in-Err c = let a = c.args in
    kept_stop _ _ _ _ c.in-Err.refused _ (unlent n_floats n_wholes state_of a.floats.now a.wholes.now _ c.in-Err.ensures) c.number.ensures _
